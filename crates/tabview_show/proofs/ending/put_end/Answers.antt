use Rattle.tabview_show.proofs.Written.{appends-kept, appends-then, on-ok}
use Rattle.tabview_show.proofs.ending.put_end.Goals as goal

pub returns : goal.returns
returns g c = on-ok _ _ (appends-kept _ _ _ _ (appends-then _ _ _ _ _ c.in_ok-end_line.ensures c.in_ok-put_hidden.ensures) c.flush.ensures.bytes)
