use Rattle.tabled_set.proofs.Names.{ap, cow_str_bytes, refl, string_bytes, ◌++◌, ◌∙◌}
use Rattle.std.proofs.Common.{append_assoc}
use Rattle.tabled_set.proofs.truncate.push_ended.Goals as goal

pub returns : goal.returns
returns c =
    let front = c.in_ok-append_cut.ensures.added in
    let used = cow_str_bytes c.args.used.now.text in
    record {
      piece = front.piece ++ used;
      ended = record { front = front.piece; cut = front.cut; answered = refl };
      added = c.in_ok-push_str.ensures.bytes ∙ ap (λ l. string_bytes c.append_cut.new.out ++ l) c.deref.ensures.value
          ∙ ap (λ l. l ++ used) front.added ∙ append_assoc (string_bytes c.args.answer.now) front.piece used;
    }
