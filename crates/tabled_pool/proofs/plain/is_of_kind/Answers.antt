use Rattle.tabled_pool.proofs.plain.is_of_kind.Goals as goal

pub returns-in-Additive : goal.returns-in-Additive
returns-in-Additive c =
    let h = rw c.unwrap_or-c.ensures at c.is_additive_column.ensures in rw c.in-Additive.is h

pub returns-in-Separator : goal.returns-in-Separator
returns-in-Separator c =
    let h = rw c.unwrap_or-c.ensures at c.is_separator_column.ensures in rw c.in-Separator.is h
