use Rattle.std.proofs.lemmas.Slice.{take-put_mid}
use Rattle.std.specs.Str.{is_utf8}
use Rattle.tabled_line.proofs.Names.{IsUtf8-append, IsUtf8-from_is_utf8, ap, arith, is_utf8-from_IsUtf8, length, rules, subst, sym, take}
use Rattle.tabled_line.proofs.Names.{true, ◌++◌, ◌+◌, ◌∙◌, ◌≡◌}
use Rattle.tabled_line.proofs.text_sink.FixedBufferTextSink.write_text.Goals as goal

pub invariant_of-self-clause-utf8 : goal.invariant_of-self-clause-utf8
invariant_of-self-clause-utf8 c =
    let used = c.args.self.now.used in
    let bytes = c.args.self.now.bytes in
    let text = c.args.text.now in
    let copied = c.copy_from_slice.ensures.after ∙ c.as_bytes.ensures.value in
    subst (λ t. is_utf8 t ≡ true)
    (sym (take-put_mid used _ bytes c.copy_from_slice.new.self (used + length text) (omega (arith, ap length copied)) (search rules)
    ∙ ap (λ t. take used bytes ++ t) copied))
    (is_utf8-from_IsUtf8 (take used bytes ++ text)
    (IsUtf8-append (take used bytes) text (IsUtf8-from_is_utf8 (take used bytes) c.args.self.now.utf8) c.utf8.text))
