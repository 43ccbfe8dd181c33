use Rattle.tabled_text.proofs.Bridge.{text_columns-nil}
use Rattle.tabled_pool.proofs.Names.{refl, sym}
use Rattle.tabled_pool.proofs.places.place_border.Goals as goal

pub add-requires : goal.add-requires
add-requires c = λ h. (sym text_columns-nil, refl)

pub add-requires-in-Down : goal.add-requires-in-Down
add-requires-in-Down c = λ h. (sym text_columns-nil, refl)
