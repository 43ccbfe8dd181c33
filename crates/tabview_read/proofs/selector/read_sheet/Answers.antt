use Rattle.std.proofs.lemmas.Result.{IfOk-weaker}
use Rattle.tabview_read.proofs.selector.read_sheet.Goals as goal

pub returns : goal.returns
returns g c =
    let begun = c.in_ok-selector.ensures in
    let read = c.in_ok-read.ensures _ _ begun in
    IfOk-weaker c.finish.result _ _ (λ sheet shows. record { names = _; rows = read.0; has = c.names.ensures; read = read.1; shows = shows }) (c.finish.ensures _ _ read.0 read.2)
