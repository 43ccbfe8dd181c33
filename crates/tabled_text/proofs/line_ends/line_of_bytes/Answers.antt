use Rattle.tabled_text.proofs.Names.{IsCharBoundary-from_ascii, and_parts, arith, is_in_range, list_all, nat_lt}
use Rattle.tabled_text.proofs.Pieces.{IsAscii-printable}
use Rattle.tabled_text.proofs.ByteLines.{first_of_bytes, only_of_bytes}
use Rattle.tabled_text.proofs.line_ends.line_of_bytes.Goals as goal

pub returns-then-text-n : goal.returns-then-text-n
returns-then-text-n c = only_of_bytes c.args.n c.args.text.now c.requires (omega arith)

pub split_at-requires : goal.split_at-requires
split_at-requires c = IsCharBoundary-from_ascii c.args.text.now c.args.n
    (IsAscii-printable c.args.text.now (and_parts (nat_lt 0 c.args.n) (list_all (is_in_range 0x20 0x7E) c.args.text.now) c.requires).1)
    (omega arith)

pub returns : goal.returns
returns c = first_of_bytes c.args.n c.args.text.now c.split_at.result.0.now c.split_at.result.1 c.requires (omega arith)
    c.split_at.ensures.front c.split_at.ensures.back
