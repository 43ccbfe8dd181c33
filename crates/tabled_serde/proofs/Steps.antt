-- What is known of an event that is none of certain ones.
use Rattle.std.proofs.Common.{[], Bool, Err, IfOk, List, MatchOption, None, Ok, Option, Result, Some, ap, false, length, map, refl, string_bytes, sym, true, ℕ, ◌==◌, ◌∙◌, ◌∷◌, ◌≡◌, ◌≢◌}
use Rattle.std.proofs.lemmas.Bool.{eqb-true}
use Rattle.std.proofs.lemmas.List.{nil_from_length}
use Rattle.std.specs.declared.alloc.Global.{Global}
use Rattle.std.specs.declared.string.String.{String}
use Rattle.serde.specs.Event.{Event, seq_begins, seq_ends}
use Rattle.tabled_serde.specs.Errors.{NoFieldFirst, NoNameFirst, NoTextIs}
use Rattle.tabled_serde.specs.Events.{event_of}
use Rattle.tabled_serde.specs.Records.{IsScalar, IsText}
use Rattle.tabled_serde.specs.declared.event.Step.{Step}
use Rattle.tabled_serde.specs.declared.event.Step.TheVariants as step

-- whether events are left
pub some-left : (steps : List Step) (b : Bool) → b ≡ (length steps == 0) → b ≡ false → map event_of steps ≢ []
some-left [] b is not_so same = absurd (cc (sym is ∙ not_so))
some-left (s ∷ steps) b is not_so same = absurd (cc same)

pub none-left : (steps : List Step) (b : Bool) → b ≡ (length steps == 0) → b ≡ true → map event_of steps ≡ []
none-left steps b is so = ap (map event_of) (nil_from_length steps (eqb-true (length steps) 0 (sym is ∙ so)))

pub no-end : (s : Step) → s ≢ step.EndList → event_of s ≢ seq_ends
no-end (step.Bool b) other same = absurd (cc same)
no-end (step.Signed z) other same = absurd (cc same)
no-end (step.Unsigned n) other same = absurd (cc same)
no-end (step.Single x) other same = absurd (cc same)
no-end (step.Double x) other same = absurd (cc same)
no-end (step.Char c) other same = absurd (cc same)
no-end (step.Text s) other same = absurd (cc same)
no-end (step.Bytes v) other same = absurd (cc same)
no-end step.Unit other same = absurd (cc same)
no-end (step.Variant s case) other same = absurd (cc same)
no-end (step.BeginList n) other same = absurd (cc same)
no-end step.EndList other same = absurd (other refl)
no-end (step.BeginMap n) other same = absurd (cc same)
no-end step.EndMap other same = absurd (cc same)
no-end (step.Field s case) other same = absurd (cc same)
no-end (step.VariantKey s case) other same = absurd (cc same)
no-end step.BeginKey other same = absurd (cc same)
no-end step.EndKey other same = absurd (cc same)
no-end step.Flatten other same = absurd (cc same)

pub no-list-begins : (s : Step) → ((n : Option ℕ) → s ≢ step.BeginList n) → (n : Option ℕ) → event_of s ≢ seq_begins n
no-list-begins (step.Bool b) other n same = absurd (cc same)
no-list-begins (step.Signed z) other n same = absurd (cc same)
no-list-begins (step.Unsigned m) other n same = absurd (cc same)
no-list-begins (step.Single x) other n same = absurd (cc same)
no-list-begins (step.Double x) other n same = absurd (cc same)
no-list-begins (step.Char c) other n same = absurd (cc same)
no-list-begins (step.Text s) other n same = absurd (cc same)
no-list-begins (step.Bytes v) other n same = absurd (cc same)
no-list-begins step.Unit other n same = absurd (cc same)
no-list-begins (step.Variant s case) other n same = absurd (cc same)
no-list-begins (step.BeginList m) other n same = absurd (other m refl)
no-list-begins step.EndList other n same = absurd (cc same)
no-list-begins (step.BeginMap m) other n same = absurd (cc same)
no-list-begins step.EndMap other n same = absurd (cc same)
no-list-begins (step.Field s case) other n same = absurd (cc same)
no-list-begins (step.VariantKey s case) other n same = absurd (cc same)
no-list-begins step.BeginKey other n same = absurd (cc same)
no-list-begins step.EndKey other n same = absurd (cc same)
no-list-begins step.Flatten other n same = absurd (cc same)

pub no-field : (s : Step) (rest : List Event) → s ≢ step.EndMap → s ≢ step.Flatten → NoNameFirst (event_of s ∷ rest) → NoFieldFirst (event_of s ∷ rest)
no-field (step.Bool b) rest no_end no_inner h = h
no-field (step.Signed z) rest no_end no_inner h = h
no-field (step.Unsigned n) rest no_end no_inner h = h
no-field (step.Single x) rest no_end no_inner h = h
no-field (step.Double x) rest no_end no_inner h = h
no-field (step.Char c) rest no_end no_inner h = h
no-field (step.Text s) rest no_end no_inner h = h
no-field (step.Bytes v) rest no_end no_inner h = h
no-field step.Unit rest no_end no_inner h = h
no-field (step.Variant s case) rest no_end no_inner h = h
no-field (step.BeginList n) rest no_end no_inner h = h
no-field step.EndList rest no_end no_inner h = h
no-field (step.BeginMap n) rest no_end no_inner h = h
no-field step.EndMap rest no_end no_inner h = absurd (no_end refl)
no-field (step.Field s case) rest no_end no_inner h = h
no-field (step.VariantKey s case) rest no_end no_inner h = h
no-field step.BeginKey rest no_end no_inner h = h
no-field step.EndKey rest no_end no_inner h = h
no-field step.Flatten rest no_end no_inner h = absurd (no_inner refl)

scalar_text : (none : List ℕ) (s : Step) → s ≢ step.Unit → (t : List ℕ)
    → (IsText none (event_of s) t → IsScalar (event_of s) t) × (IsScalar (event_of s) t → IsText none (event_of s) t)
scalar_text none (step.Bool b) other t = (λ h. h, λ h. h)
scalar_text none (step.Signed z) other t = (λ h. h, λ h. h)
scalar_text none (step.Unsigned n) other t = (λ h. h, λ h. h)
scalar_text none (step.Single x) other t = (λ h. h, λ h. h)
scalar_text none (step.Double x) other t = (λ h. h, λ h. h)
scalar_text none (step.Char c) other t = (λ h. h, λ h. h)
scalar_text none (step.Text s) other t = (λ h. h, λ h. h)
scalar_text none (step.Bytes v) other t = (λ h. h, λ h. h)
scalar_text none step.Unit other t = absurd (other refl)
scalar_text none (step.Variant s case) other t = (λ h. h, λ h. h)
scalar_text none (step.BeginList n) other t = (λ h. h, λ h. h)
scalar_text none step.EndList other t = (λ h. h, λ h. h)
scalar_text none (step.BeginMap n) other t = (λ h. h, λ h. h)
scalar_text none step.EndMap other t = (λ h. h, λ h. h)
scalar_text none (step.Field s case) other t = (λ h. h, λ h. h)
scalar_text none (step.VariantKey s case) other t = (λ h. h, λ h. h)
scalar_text none step.BeginKey other t = (λ h. h, λ h. h)
scalar_text none step.EndKey other t = (λ h. h, λ h. h)
scalar_text none step.Flatten other t = (λ h. h, λ h. h)

-- what isn't `None` has no other text than a scalar
pub text-or-none : {E : Type 0} (none : List ℕ) (s : Step) (r : Result (Option (String Global)) E) → s ≢ step.Unit
    → IfOk r (λ some. MatchOption some (NoTextIs (IsScalar (event_of s))) (λ t. IsScalar (event_of s) (string_bytes t)))
    → IfOk r (λ some. MatchOption some (NoTextIs (IsText none (event_of s))) (λ t. IsText none (event_of s) (string_bytes t)))
text-or-none none s (Ok None) other h = λ t is. h t ((scalar_text none s other t).0 is)
text-or-none none s (Ok (Some text)) other h = (scalar_text none s other (string_bytes text)).1 h
text-or-none none s (Err e) other h = tt
