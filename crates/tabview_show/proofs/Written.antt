-- Bytes that a writer takes, one piece after another.
use Rattle.std.proofs.Common.{ℕ, List, [], ◌++◌, Option, Some, None, Result, Ok, Err, OnOk, ap, append_assoc, sym, ◌∙◌}
use Rattle.std.proofs.lemmas.List.{append-nil}
use Rattle.std.specs.Io.KnownBytes.{Appends, Keeps}

pub appends-none : (a : Option (List ℕ)) → Appends a a []
appends-none None = tt
appends-none (Some a) = sym (append-nil a)

pub appends-then : (a b c : Option (List ℕ)) (xs ys : List ℕ) → Appends a b xs → Appends b c ys → Appends a c (xs ++ ys)
appends-then None b c xs ys h k = tt
appends-then (Some a) None c xs ys h k = absurd h
appends-then (Some a) (Some b) None xs ys h k = absurd k
appends-then (Some a) (Some b) (Some c) xs ys h k = k ∙ ap (λ l. l ++ ys) h ∙ append_assoc a xs ys

pub appends-kept : (a b c : Option (List ℕ)) (xs : List ℕ) → Appends a b xs → Keeps b c → Appends a c xs
appends-kept None b c xs h k = tt
appends-kept (Some a) None c xs h k = absurd h
appends-kept (Some a) (Some b) None xs h k = absurd k
appends-kept (Some a) (Some b) (Some c) xs h k = k ∙ h

pub appends-last : {T E : Type 0} (r : Result T E) (a b c : Option (List ℕ)) (xs ys : List ℕ) → Appends a b xs → OnOk r (Appends b c ys)
    → OnOk r (Appends a c (xs ++ ys))
appends-last (Ok done) a b c xs ys h k = appends-then a b c xs ys h k
appends-last (Err error) a b c xs ys h k = tt

pub on-ok : {T E : Type 0} (r : Result T E) (P : Type 0) → P → OnOk r P
on-ok (Ok done) P h = h
on-ok (Err error) P h = tt
