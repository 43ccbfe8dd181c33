use Rattle.std.proofs.Common.{IfOk, string_bytes, subst, ◌≡◌}
use Rattle.serde.specs.Spelling.{spelled}
use Rattle.serde.specs.declared.name.NameKind.TheVariants.{Field, Variant}
use Rattle.tabled_serde.proofs.Reading.{field-read, key-read, variant-read}
use Rattle.tabled_serde.specs.Reader.{left}
use Rattle.tabled_serde.proofs.Failing.{key-fails}
use Rattle.tabled_serde.proofs.reader.Reader.read_name.Goals as goal

pub returns-in-Field-clause-ok : goal.returns-in-Field-clause-ok
returns-in-Field-clause-ok c =
    let same : c.deref.result.now ≡ string_bytes c.in-Field.name = c.deref.ensures in
    rw c.in-Field.is
    (field-read (left c.args.self.now) c.spelling.result (string_bytes c.in-Field.name) c.in-Field.case
    (subst (λ n. IfOk c.spelling.result (λ t. string_bytes t ≡ spelled c.in-Field.case Field n)) same c.spelling.ensures.ok))

pub returns-in-VariantKey-clause-ok : goal.returns-in-VariantKey-clause-ok
returns-in-VariantKey-clause-ok c =
    let same : c.deref-in-VariantKey.result.now ≡ string_bytes c.in-VariantKey.name = c.deref-in-VariantKey.ensures in
    rw c.in-VariantKey.is
    (variant-read (left c.args.self.now) c.spelling-in-VariantKey.result (string_bytes c.in-VariantKey.name) c.in-VariantKey.case
    (subst (λ n. IfOk c.spelling-in-VariantKey.result (λ t. string_bytes t ≡ spelled c.in-VariantKey.case Variant n)) same
    c.spelling-in-VariantKey.ensures.ok))

pub returns-in-BeginKey-clause-ok : goal.returns-in-BeginKey-clause-ok
returns-in-BeginKey-clause-ok c =
    rw c.in-BeginKey.is (key-read (left c.args.self.now) c.read_key.result _ c.read_key.ensures.ok)

pub returns-in-BeginKey-clause-failed : goal.returns-in-BeginKey-clause-failed
returns-in-BeginKey-clause-failed c =
    rw c.in-BeginKey.is (key-fails c.args.self.now.none.now c.read_key.result (left c.args.self.now) c.read_key.ensures.failed)
