use Rattle.tabled.proofs.Names.{digits_value, refl, ◌<◌, ◌^◌, ◌≡◌}
use Rattle.tabled.proofs.Noting.{decimals, not_empty}
use Rattle.std.proofs.lemmas.Str.Parse.{parse_gives}
use Rattle.tabled.proofs.arguments.number_of.Goals as goal

pub returns-clause-number : goal.returns-clause-number
returns-clause-number c number is =
    let fits : digits_value 10 c.args.word.now < 2 ^ 64 = rw is.value is.fits in
    let read = parse_gives decimals 64 c.args.word.now c.parse.result c.parse.ensures.value.0 is.digits (not_empty _ is.some) fits in
    let value : digits_value 10 c.args.word.now ≡ number = is.value in
    rw (c.ok.ensures.value, read, value) refl
