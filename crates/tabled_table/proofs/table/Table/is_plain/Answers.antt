use Rattle.tabled_table.proofs.table.Table.is_plain.Goals as goal

pub returns-then-is_additive_config : goal.returns-then-is_additive_config
returns-then-is_additive_config c =
    let tested = c.is_additive_config.ensures.0 c.if-is_additive_config.true in
    let config = rw (c.as_ref-config.ensures, c.count_rows.ensures, c.count_columns.ensures) at tested in
    (λ e. (config, c.is_plain_records.ensures.0 e), λ both. c.is_plain_records.ensures.1 both.1)
