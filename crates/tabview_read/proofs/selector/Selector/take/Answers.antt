use Rattle.std.proofs.Common.{refl}
use Rattle.tabview_read.proofs.Lines.{HasRows-keeps, HasRows-skips, HasRows-writes, first-is, last-few, next_count, tail-is}
use Rattle.tabview_read.proofs.selector.Selector.take.Goals as goal

pub returns-then-has_first : goal.returns-then-has_first
returns-then-has_first c = λ w names rows has few.
    let wide = c.find_columns.ensures in
    HasRows-skips w names rows _ c.args.self.now _ has wide
    (first-is w names rows c.args.self.now c.find_columns.new.self _ _ has wide.wanted c.has_first-has_first.ensures c.if-has_first.true)
    refl (next_count _ _ _ c.saturating_add-self.ensures has.count few) refl

pub returns-in_ok-write_row-in-None : goal.returns-in_ok-write_row-in-None
returns-in_ok-write_row-in-None c = λ w names rows has few.
    let wide = c.find_columns.ensures in
    HasRows-writes w names rows _ c.args.self.now c.find_columns.new.self _ has wide
    (first-is w names rows c.args.self.now c.find_columns.new.self _ _ has wide.wanted c.has_first-has_first.ensures c.if-has_first.false)
    (tail-is w names rows c.args.self.now c.find_columns.new.self _ has wide.wanted c.in-None.is)
    c.write_row.ensures.wanted c.write_row.ensures.columns c.in_ok-write_row-in-None.ensures.texts
    refl (next_count _ _ _ c.saturating_add-self.ensures has.count few) refl

pub returns-in_ok-keep_last-in-Some : goal.returns-in_ok-keep_last-in-Some
returns-in_ok-keep_last-in-Some c = λ w names rows has few.
    let wide = c.find_columns.ensures in
    let tail = tail-is w names rows c.args.self.now c.find_columns.new.self _ has wide.wanted c.in-Some.is in
    HasRows-keeps w names rows _ _ c.args.self.now _ has wide
    (first-is w names rows c.args.self.now c.find_columns.new.self _ _ has wide.wanted c.has_first-has_first.ensures c.if-has_first.false)
    tail (c.in_ok-keep_last-in-Some.ensures (last-few w names rows c.args.self.now _ has tail))
    (next_count _ _ _ c.saturating_add-self.ensures has.count few) refl
