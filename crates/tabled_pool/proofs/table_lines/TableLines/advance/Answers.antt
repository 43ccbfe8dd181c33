use Rattle.tabled_pool.proofs.table_lines.TableLines.advance.Goals as goal

pub returns-in-Placed : goal.returns-in-Placed
returns-in-Placed c = rw c.in-Placed.is (λ swept. c.advance.ensures swept)
