use Rattle.tabled_text.proofs.Names.{IsUtf8-past_char, ap, append-nil, append_all, append_text, append_used, arith, chars, encode_utf8_all}
use Rattle.tabled_text.proofs.Names.{length, length-append, map, subst, sym, unit_of_char, used_after, ◌++◌, ◌+◌, ◌-◌, ◌∙◌, ◌∷◌, ◌≡◌, ◌≤◌}
use Rattle.tabled_text.proofs.Filling.{encodes-more}
use Rattle.tabled_text.proofs.Pieces.{piece-used, piece-written}
use Rattle.tabled_text.proofs.wrap.append_chars.Goals as goal

pub overflow_add-column : goal.overflow_add-column
overflow_add-column g c = omega (arith, c.split_piece-columns.ensures.piece.fits, c.saturating_sub.ensures)

pub pieces-preserved : goal.pieces-preserved
pieces-preserved g c =
    let n = c.args.n in
    let p = c.split_piece-columns.ensures.piece in
    let e = c.in-Some.ensures in
    let first = unit_of_char c.in-Some.c in
    let rest = map unit_of_char (chars c.in-Some.next.now) in
    let piece = c.split_piece-columns.result.0.now in
    let after = c.split_piece-columns.result.2.now in
    let column = c.pieces.column + c.split_piece-columns.result.1 in
    let at = c.in_ok-column-in-Some.ensures.used in
    let room : c.saturating_sub.result ≤ n - c.pieces.column = omega (arith, c.saturating_sub.ensures) in
    let whole : map unit_of_char (chars after) ≡ first ∷ rest = ap (map unit_of_char) e.2 in (
      ap (λ k. used_after n k rest) at ∙ sym (ap (used_after n column) whole)
          ∙ sym (piece-used n c.saturating_sub.result c.pieces.column c.split_piece-columns.result.1 c.pieces.rest.now piece after p room)
          ∙ c.pieces.invariant.0,
      (λ t h. c.pieces.invariant.1 t
          (subst (λ x. g.S.Sink.adds c.pieces.out x t)
          (piece-written n c.saturating_sub.result c.pieces.column c.split_piece-columns.result.1 c.pieces.rest.now piece after p room)
          (g.met.S.Sink.adds_more c.pieces.out c.append_str.new.self t piece
          (encode_utf8_all (append_all n column (map unit_of_char (chars after)))) c.in_ok-append_str.ensures
          (subst (λ x. g.S.Sink.adds c.append_str.new.self x t)
          (encodes-more n column first rest ∙ ap (λ l. encode_utf8_all (append_all n column l)) (sym whole))
          (g.met.S.Sink.adds_more c.append_str.new.self c.append_char.new.out t (encode_utf8_all (append_text n column first))
          (encode_utf8_all (append_all n (append_used n column first) rest)) c.in_ok-column-in-Some.ensures.text
          (subst (λ k. g.S.Sink.adds c.append_char.new.out (encode_utf8_all (append_all n k rest)) t) at h)))))),
      IsUtf8-past_char after c.in-Some.next.now c.in-Some.c p.rest_utf8 e.0,
    )

pub pieces-smaller : goal.pieces-smaller
pieces-smaller g c =
    omega (
      arith,
      c.in-Some.ensures.1,
      ap length c.split_piece-columns.ensures.piece.parts,
      length-append c.split_piece-columns.result.0.now c.split_piece-columns.result.2.now,
    )

pub returns-in-None-clause-used : goal.returns-in-None-clause-used
returns-in-None-clause-used g c =
    let n = c.args.n in
    let column = c.pieces.column + c.split_piece-columns.result.1 in
    let room : c.saturating_sub.result ≤ n - c.pieces.column = omega (arith, c.saturating_sub.ensures) in
    sym (ap (λ l. used_after n column (map unit_of_char l)) c.in-None.ensures)
    ∙ sym (piece-used n c.saturating_sub.result c.pieces.column c.split_piece-columns.result.1 c.pieces.rest.now
    c.split_piece-columns.result.0.now c.split_piece-columns.result.2.now c.split_piece-columns.ensures.piece room)
    ∙ c.pieces.invariant.0

pub returns-in-None-clause-text : goal.returns-in-None-clause-text
returns-in-None-clause-text g c =
    let n = c.args.n in
    let piece = c.split_piece-columns.result.0.now in
    let column = c.pieces.column + c.split_piece-columns.result.1 in
    let room : c.saturating_sub.result ≤ n - c.pieces.column = omega (arith, c.saturating_sub.ensures) in
    c.pieces.invariant.1 c.append_str.new.self
    (subst (λ x. g.S.Sink.adds c.pieces.out x c.append_str.new.self)
    (sym (append-nil piece)
    ∙ ap (λ l. piece ++ encode_utf8_all (append_all n column (map unit_of_char l))) (sym c.in-None.ensures)
    ∙ piece-written n c.saturating_sub.result c.pieces.column c.split_piece-columns.result.1 c.pieces.rest.now
    piece c.split_piece-columns.result.2.now c.split_piece-columns.ensures.piece room)
    c.in_ok-append_str.ensures)
