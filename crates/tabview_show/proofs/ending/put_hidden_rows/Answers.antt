use Rattle.tabview_show.proofs.Written.{appends-last}
use Rattle.tabview_show.proofs.ending.put_hidden_rows.Goals as goal

pub returns : goal.returns
returns g c = appends-last c.put_count.result _ _ _ _ _ c.in_ok-put_gap.ensures c.put_count.ensures
