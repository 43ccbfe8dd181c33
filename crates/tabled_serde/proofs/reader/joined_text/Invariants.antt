use Rattle.std.proofs.Common.{codes, map, string_bytes, take, ◌++◌, ◌≡◌}
use Rattle.std.specs.List.{flat_map}
use Rattle.tabled_serde.proofs.reader.joined_text.Given as goal

abbrev pub invariant-others : goal.invariant-others
invariant-others l =
    string_bytes l.all ≡ string_bytes l.initial.all ++ flat_map (λ u. codes ", " ++ u) (map string_bytes (take l.text-index l.others))
