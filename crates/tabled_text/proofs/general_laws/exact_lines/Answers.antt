use Rattle.tabled_text.proofs.ExactLines.{exact-kept, exact-longest, exact-take, plain_exact}
use Rattle.tabled_text.proofs.general_laws.exact_lines.Goals as goal

pub returns : goal.returns
returns g = record {
  plain = plain_exact;
  beginnings = λ line e k. exact-take k line e;
  longest = exact-longest;
  kept = exact-kept;
}
