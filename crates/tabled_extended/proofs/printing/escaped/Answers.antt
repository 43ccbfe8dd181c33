use Rattle.tabled_extended.proofs.Names.{ap, escape, flat_map, map, map-id, rules, sym, ◌∙◌, ◌≡◌}
use Rattle.std.specs.Str.{chars}
use Rattle.std.specs.Str.Iter.{chars_rest}
use Rattle.std.proofs.lemmas.Iterator.{YieldsList-from_chars, items_from_drains}
use Rattle.tabled_extended.proofs.printing.escaped.Goals as goal

pub returns : goal.returns
returns c =
    let start : chars_rest c.into_iter-c-iterator.result ≡ c.args.text.now = search rules in
    let all : map (λ x. x) c.characters.yielded ≡ chars c.args.text.now =
    items_from_drains c.characters.yielded (c.characters.c-iterator, c.characters.yielded_by, λ _. (c.next.new.self, c.in-None.ensures.steps))
    (YieldsList-from_chars c.args.text.now c.utf8.text start) in
    c.characters.invariant ∙ ap (flat_map escape) (sym (map-id c.characters.yielded) ∙ all)
