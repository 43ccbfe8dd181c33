-- The events that are kept.
use Rattle.std.specs.Prelude.{◌≡◌, ℕ, List, [], ◌∷◌, ◌++◌, Option, IfSome, string_bytes}
use Rattle.serde.specs.Event.{Event, boolean, signed, unsigned, single, double, character, text, octets, nothing, unit_variant, seq_begins, seq_ends}
use Rattle.serde.specs.Event.{map_begins, map_ends, field_key, variant_key, key_begins, key_ends, flattens}
use Rattle.tabled_serde.specs.declared.event.Step.{Step}
use Rattle.tabled_serde.specs.declared.event.Step.TheVariants as step

abbrev pub event_of : Step → Event
event_of (step.Bool b) = boolean b
event_of (step.Signed z) = signed z
event_of (step.Unsigned n) = unsigned n
event_of (step.Single x) = single x
event_of (step.Double x) = double x
event_of (step.Char c) = character c
event_of (step.Text s) = text (string_bytes s)
event_of (step.Bytes v) = octets v.items
event_of step.Unit = nothing
event_of (step.Variant s case) = unit_variant (string_bytes s) case
event_of (step.BeginList n) = seq_begins n
event_of step.EndList = seq_ends
event_of (step.BeginMap n) = map_begins n
event_of step.EndMap = map_ends
event_of (step.Field s case) = field_key (string_bytes s) case
event_of (step.VariantKey s case) = variant_key (string_bytes s) case
event_of step.BeginKey = key_begins
event_of step.EndKey = key_ends
event_of step.Flatten = flattens

-- one more event, the text that a value displays, where that is known
abbrev pub WritesShown : Option (List ℕ) → List Event → List Event → Type 0
WritesShown shown old new = (t : List ℕ) × IfSome shown (λ bytes. t ≡ bytes) × (new ≡ old ++ text t ∷ [])
