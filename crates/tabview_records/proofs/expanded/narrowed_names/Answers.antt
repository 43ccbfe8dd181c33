use Rattle.std.proofs.Common.{[], ap, arith, get_or, length, map, string_bytes, subst, sym, take, ◌+◌, ◌++◌, ◌<◌, ◌∙◌, ◌∷◌, ◌≡◌}
use Rattle.std.proofs.lemmas.List.{map-append, take_more}
use Rattle.std.proofs.lemmas.List.Elements.{AllZip-push}
use Rattle.std.specs.List.{AllZip}
use Rattle.tabview_records.specs.Narrowed.{IsNarrowedText}
use Rattle.tabview_records.proofs.expanded.narrowed_names.Goals as goal

pub loop-name-preserved : goal.loop-name-preserved
loop-name-preserved c =
    let i = c.loop-name.name-index in
    let names = c.args.names.now in
    let item = get_or names i c.name-item.result in
    let shown = c.loop-name.shown.items in
    let text = string_bytes c.in_ok-text.text in
    let R = IsNarrowedText c.args.layout.cuts c.args.layout.names in
    let inside : i < length names = omega arith in
    let one : R (string_bytes item) text = subst (λ t. R t text) (c.as_str.ensures.value ∙ ap string_bytes c.name-item.is) c.in_ok-text.ensures in
    let before = ap (map string_bytes) (take_more names i c.name-item.result inside) ∙ map-append string_bytes (take i names) (item ∷ []) in
    let after = ap (map string_bytes) c.in_ok-push.ensures.items ∙ map-append string_bytes shown (c.in_ok-text.text ∷ []) in
    subst (λ ss. AllZip R (map string_bytes (take (i + 1) names)) ss) (sym after)
    (subst (λ ks. AllZip R ks (map string_bytes shown ++ text ∷ [])) (sym before)
    (AllZip-push R (map string_bytes (take i names)) (map string_bytes shown) (string_bytes item) text c.loop-name.invariant one))
