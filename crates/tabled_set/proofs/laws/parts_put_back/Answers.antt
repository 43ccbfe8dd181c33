use Rattle.tabled_set.proofs.PuttingBack.{put_back_whole}
use Rattle.tabled_set.proofs.laws.parts_put_back.Goals as goal

pub returns-clause-whole : goal.returns-clause-whole
returns-clause-whole c = put_back_whole
