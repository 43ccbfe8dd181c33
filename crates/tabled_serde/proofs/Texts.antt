-- The cells of rows of strings are UTF-8.
use Rattle.std.proofs.Common.{List, [], map, max, length, replicate, string_bytes, ℕ, ◌++◌, ◌-◌, ◌∷◌}
use Rattle.std.proofs.lemmas.List.Elements.{All-append, All-cons, All-map, All-nil, All-replicate, All-weaker}
use Rattle.std.proofs.lemmas.Str.{IsUtf8-nil, IsUtf8-string_bytes}
use Rattle.std.specs.List.{All}
use Rattle.std.specs.Str.{IsUtf8}
use Rattle.std.specs.declared.alloc.Global.{Global}
use Rattle.std.specs.declared.string.String.{String}
use Rattle.tabled_base.specs.Cells.{columns, lengthened, with_record}

pub strings-texts : (texts : List (String Global)) → All IsUtf8 (map string_bytes texts)
strings-texts [] = All-nil IsUtf8
strings-texts (text ∷ texts) = All-cons IsUtf8 (string_bytes text) (map string_bytes texts) (IsUtf8-string_bytes text) (strings-texts texts)

lengthened-texts : (count : ℕ) (row : List (List ℕ)) → All IsUtf8 row → All IsUtf8 (lengthened count row)
lengthened-texts count row h = All-append IsUtf8 row (replicate (count - length row) []) h
    (All-replicate IsUtf8 (count - length row) [] IsUtf8-nil)

-- a row of texts more
pub texts-more : (rows : List (List (List ℕ))) (row : List (List ℕ)) → All (All IsUtf8) rows → All IsUtf8 row → All (All IsUtf8) (with_record rows row)
texts-more rows row all one =
    let count = max (columns rows) (length row) in
    All-map (All IsUtf8) (lengthened count) (rows ++ row ∷ [])
    (All-weaker (All IsUtf8) (λ r. All IsUtf8 (lengthened count r)) (lengthened-texts count) (rows ++ row ∷ [])
    (All-append (All IsUtf8) rows (row ∷ []) all (All-cons (All IsUtf8) row [] one (All-nil (All IsUtf8)))))
