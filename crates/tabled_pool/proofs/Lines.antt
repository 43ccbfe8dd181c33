-- Lines of a kind, and how the lines of blocks and margins are put together of them.
use Rattle.tabled_pool.proofs.Names.{CellStyle, DrawingPlan, EachFill, EachLineTakes, Indent, IsAdditive, IsAdditiveColumn, IsAdditiveLine}
use Rattle.tabled_pool.proofs.Names.{IsLine, IsSeparatorColumn, IsUtf8, List, Sides, [], append-nil, arith, cell_line, coloured}
use Rattle.tabled_pool.proofs.Names.{columns_before, drawn, drawn_line, fill, frame-nil, frame-one, get_or, inner_width, length, line-frame}
use Rattle.tabled_pool.proofs.Names.{line_columns, lines_of, margin_line, no_mark, plain_column-space, plain_line-append, pool_block, refl}
use Rattle.tabled_pool.proofs.Names.{subst, suc, sym, text_columns, text_line, with_margin, within_margin, without_sides, zero, ℕ, ◌++◌}
use Rattle.tabled_pool.proofs.Names.{◌+◌, ◌-◌, ◌<◌, ◌∙◌, ◌≡◌, ◌≤◌}
use Rattle.std.proofs.lemmas.List.Elements.{All-append, All-map, All-replicate}
use Rattle.tabled_line.proofs.Plains.{plain-fill}
use Rattle.tabled_text.proofs.Bridge.{line_columns-le}
use Rattle.tabled_text.proofs.PlainLines.{plain_line-each}
use Rattle.tabled_text.proofs.Ends.{frame-as}
use Rattle.tabled_text.proofs.LineLaws.{frame-append, line-each, line-framed}
use Rattle.tabled_text.specs.FramedLines.{IsFrame}
use Rattle.tabled_pool.proofs.Columns.{drawn-each}
use Rattle.tabled_pool.proofs.PlainBlocks.{bare, columns_before-fits}
use Rattle.tabled_pool.proofs.PoolBlocks.{each_line}

-- fills, lines that stand between two fills, and the lines of texts: their columns add up
pub record LineKind (IsKind : ℕ → Type 0) (IsText : List ℕ → Type 0) (Frame Line : List ℕ → ℕ → Type 0) : Type 0 where
  pub space : IsKind 32
  pub fill : (c n : ℕ) → IsKind c → Frame (fill c n) n
  pub line : (run : List ℕ) (n : ℕ) → Frame run n → Line run n
  pub between : (a b c : List ℕ) (k n l : ℕ) → Frame a k → Line b n → Frame c l → Line (a ++ (b ++ c)) (k + (n + l))
  pub each : (text : List ℕ) → IsText text → (j : ℕ) → j < length (lines_of text)
      → Line (get_or (lines_of text) j []) (line_columns (get_or (lines_of text) j []))
  pub columns : (line : List ℕ) (n : ℕ) → Line line n → line_columns line ≡ n

pub additive_lines : LineKind IsAdditiveColumn IsAdditive IsAdditiveLine IsAdditiveLine
additive_lines = record {
  space = plain_column-space;
  fill = plain-fill;
  line = λ run n l. l;
  between = λ a b c k n l p q r. plain_line-append p (plain_line-append q r);
  each = λ text u j h. plain_line-each text u j h;
  columns = λ line n l. l.columns;
}

frame-fill : (c n : ℕ) → IsSeparatorColumn c → IsFrame (fill c n) n
frame-fill c zero h = frame-nil
frame-fill c (suc n) h = frame-as (frame-append (frame-one c h) (frame-fill c n h)) (omega arith)

pub separator_lines : LineKind IsSeparatorColumn IsUtf8 IsFrame IsLine
separator_lines = record {
  space = record { additive = plain_column-space; steady = refl };
  fill = frame-fill;
  line = λ run n f. line-frame f;
  between = λ a b c k n l p q r. line-framed p q r;
  each = λ text u j h. line-each text u j h;
  columns = λ line n l. l.columns;
}

-- a box holds a text of a kind and its padding
pub record IsHeldText (IsKind : ℕ → Type 0) (IsText : List ℕ → Type 0) (s : CellStyle) (w : ℕ) (text : List ℕ) : Type 0 where
  pub style : EachFill IsKind s.padding
  pub own : IsText text
  pub fits : text_columns text + (s.padding.left.size + s.padding.right.size) ≤ w

module _ {IsKind : ℕ → Type 0} {IsText : List ℕ → Type 0} {Frame Line : List ℕ → ℕ → Type 0} (kind : LineKind IsKind IsText Frame Line) where
  recounted : (line : List ℕ) (m n : ℕ) → Line line m → m ≡ n → Line line n
  recounted line m n p e = subst (λ k. Line line k) e p

  -- a fill without a colour
  pub run : (c n : ℕ) → IsKind c → Frame (coloured no_mark (fill c n)) n
  run c n h = subst (λ bs. Frame bs n) (sym (append-nil (fill c n))) (kind.fill c n h)

  pub cell : (s : CellStyle) (w : ℕ) (text : List ℕ) (j : ℕ) → IsHeldText IsKind IsText s w text → j < length (lines_of text)
      → Line (cell_line (without_sides s) (inner_width s w) text (get_or (lines_of text) j [])) (inner_width s w)
  unfolding cell_line
  cell s w text j p l =
      let line = get_or (lines_of text) j [] in
      let le = line_columns-le text j l in
      let fits = p.fits in
      let room = inner_width (without_sides s) (inner_width s w) in
      let before = columns_before-fits (without_sides s) room text line le (omega arith) in
      let indented = columns_before (without_sides s) room text line in
      recounted _ _ _ (kind.between _ _ _ _ _ _ (kind.fill 32 indented kind.space) (kind.each text p.own j l)
      (run 32 (room - indented - line_columns line) kind.space)) (omega arith)

  pub text-framed : (s : CellStyle) (w : ℕ) (text : List ℕ) (j : ℕ) → IsHeldText IsKind IsText s w text → j < length (lines_of text)
      → Line (text_line s bare w text (get_or (lines_of text) j [])) w
  text-framed s w text j p l =
      let fits = p.fits in
      recounted _ _ _ (kind.between _ _ _ _ _ _ (run s.padding.left.fill s.padding.left.size p.style.left) (cell s w text j p l)
      (run s.padding.right.fill s.padding.right.size p.style.right)) (omega arith)

  pub block : (s : CellStyle) (w h k : ℕ) (text : List ℕ) → IsHeldText IsKind IsText s w text → k < h
      → Line (get_or (pool_block s bare w h text) k []) w
  block s w h k text p n =
      each_line (λ bs. Line bs w) s bare w h text k (kind.line _ _ (kind.fill 32 w kind.space))
      (kind.line _ _ (run s.padding.top.fill w p.style.top)) (kind.line _ _ (run s.padding.bottom.fill w p.style.bottom))
      (λ j l. text-framed s w text j p l) n

  sides : (m : Sides Indent) (w : ℕ) (line : List ℕ) → EachFill IsKind m → Line line w
      → line_columns (within_margin m bare line) ≡ m.left.size + w + m.right.size
  sides m w line p l =
      let all = kind.between _ _ _ _ _ _ (run m.left.fill m.left.size p.left) l (run m.right.fill m.right.size p.right) in
      kind.columns _ _ all ∙ omega arith

  -- each drawn line with the margin around it
  pub margined : (t : DrawingPlan) (m : Sides Indent) → EachFill IsKind m → ((y : ℕ) → y < t.height → Line (drawn_line t y) t.width)
      → EachLineTakes (m.left.size + t.width + m.right.size) (with_margin m bare t.width (drawn t))
  margined t m p each =
      let P : List ℕ → Type 0 = λ l. line_columns l ≡ m.left.size + t.width + m.right.size in
      let end : (c : ℕ) → IsKind c → P (margin_line m bare no_mark c t.width) =
      λ c k. sides m t.width _ p (kind.line _ _ (run c t.width k)) in
      All-append P _ _ (All-replicate P m.top.size _ (end m.top.fill p.top))
      (All-append P _ _ (All-map P (within_margin m bare) (drawn t)
      (drawn-each t (λ l. P (within_margin m bare l)) (λ y v. sides m t.width _ p (each y v))))
      (All-replicate P m.bottom.size _ (end m.bottom.fill p.bottom)))
