use Rattle.tabled_line.proofs.Names.{IsUtf8, IsUtf8-nil, IsUtf8-string_bytes, ap, arith, drop, eqb-true, length, length-drop, refl}
use Rattle.tabled_line.proofs.Names.{slice_index_or, string_bytes, subst, sym, take, take_all, ◌++◌, ◌+◌, ◌-◌, ◌∙◌, ◌≡◌}
use Rattle.tabled_line.proofs.Appended.{blank-appended, line-filled, none-appended, padded-long, padded-part, rest-dropped, slot-reached}
use Rattle.tabled_line.proofs.Appended.{slots-passed, text-appended}
use Rattle.tabled_line.specs.Slots.{IsFilled}
use Rattle.tabled_line.proofs.row_template.append_texts.Goals as goal

pub texts-init : goal.texts-init
texts-init g c = record {
  appended = none-appended _ _ _ _ refl c.requires.blank.text IsUtf8-nil (IsUtf8-string_bytes c.args.blank.now.text);
  left = omega (arith, c.in_ok-spare.ensures, ap length c.as_bytes-bytes.ensures.value);
}

pub place_text-requires : goal.place_text-requires
place_text-requires g c κs =
    let slot = slot-reached c.as_slice-slots.result.now c.texts.invariant.appended (c.as_slice-slots.ensures.value ∙ c.requires.blank.slots) (omega (arith, c.texts-test.true)) in
    ((refl, tt), (c.requires.describes, (slot.within, (slot.width_is, c.requires.at))))

pub texts-preserved-then-placed-eq0 : goal.texts-preserved-then-placed-eq0
texts-preserved-then-placed-eq0 g c =
    let a = c.texts.invariant.appended in
    let slot = slot-reached c.as_slice-slots.result.now a (c.as_slice-slots.ensures.value ∙ c.requires.blank.slots) (omega (arith, c.texts-test.true)) in
    record {
      appended = blank-appended a slot.within c.in_ok-placed.ensures
          (eqb-true (length c.in_ok-placed.placed.text.now) 0 (sym c.is_empty.ensures ∙ c.if-is_empty.true)) c.if-placed-eq0.true;
      left = c.texts.invariant.left;
    }

pub overflow_add-spare : goal.overflow_add-spare
overflow_add-spare g c =
    let a = c.texts.invariant.appended in
    let slot = slot-reached c.as_slice-slots.result.now a (c.as_slice-slots.ensures.value ∙ c.requires.blank.slots) (omega (arith, c.texts-test.true)) in
    omega (arith, slot.after, slot.reach, slot.width_is, c.in_ok-placed.ensures.whole, a.within, c.texts.invariant.left, ap length c.as_bytes-bytes.ensures.value, padded-long _ _ c.requires.blank.padded)

pub overflow_add-start : goal.overflow_add-start
overflow_add-start g c =
    let a = c.texts.invariant.appended in
    let slot = slot-reached c.as_slice-slots.result.now a (c.as_slice-slots.ensures.value ∙ c.requires.blank.slots) (omega (arith, c.texts-test.true)) in
    omega (arith, slot.after, slot.reach, slot.width_is, c.in_ok-placed.ensures.whole, a.within, c.texts.invariant.left, ap length c.as_bytes-bytes.ensures.value, padded-long _ _ c.requires.blank.padded)

pub overflow_sub-count : goal.overflow_sub-count
overflow_sub-count g c =
    let a = c.texts.invariant.appended in
    let slot = slot-reached c.as_slice-slots.result.now a (c.as_slice-slots.ensures.value ∙ c.requires.blank.slots) (omega (arith, c.texts-test.true)) in
    omega (arith, slot.after, slot.reach, slot.width_is, c.in_ok-placed.ensures.whole, a.within, c.texts.invariant.left)

pub overflow_add-begin : goal.overflow_add-begin
overflow_add-begin g c =
    let a = c.texts.invariant.appended in
    let slot = slot-reached c.as_slice-slots.result.now a (c.as_slice-slots.ensures.value ∙ c.requires.blank.slots) (omega (arith, c.texts-test.true)) in
    omega (arith, slot.after, slot.reach, slot.width_is, c.in_ok-placed.ensures.whole, a.within, c.texts.invariant.left, ap length c.as_bytes-bytes.ensures.value, padded-long _ _ c.requires.blank.padded)

pub copy_part-requires-clause-count : goal.copy_part-requires-clause-count
copy_part-requires-clause-count g c =
    let slot = slot-reached c.as_slice-slots.result.now c.texts.invariant.appended (c.as_slice-slots.ensures.value ∙ c.requires.blank.slots) (omega (arith, c.texts-test.true)) in
    omega (
      arith,
      slot.reach,
      slot.width_is,
      c.in_ok-placed.ensures.whole,
      ap length (rest-dropped _ _ c.texts.passed c.as_bytes-bytes.ensures.value),
      length-drop c.texts.passed (string_bytes c.args.blank.now.padded),
      padded-long _ _ c.requires.blank.padded,
    )

pub copy_text-requires : goal.copy_text-requires
copy_text-requires g c =
    let a = c.texts.invariant.appended in
    let slot = slot-reached c.as_slice-slots.result.now a (c.as_slice-slots.ensures.value ∙ c.requires.blank.slots) (omega (arith, c.texts-test.true)) in
    omega (
      arith,
      slot.after,
      slot.reach,
      slot.width_is,
      c.in_ok-placed.ensures.whole,
      a.within,
      c.texts.invariant.left,
      c.in_ok-spare-2.ensures,
      c.copy_part.ensures.length,
      ap length c.as_bytes.ensures.value,
      padded-long _ _ c.requires.blank.padded,
    )

pub overflow_add-end : goal.overflow_add-end
overflow_add-end g c =
    let a = c.texts.invariant.appended in
    let slot = slot-reached c.as_slice-slots.result.now a (c.as_slice-slots.ensures.value ∙ c.requires.blank.slots) (omega (arith, c.texts-test.true)) in
    omega (
      arith,
      slot.after,
      slot.reach,
      slot.width_is,
      c.in_ok-placed.ensures.whole,
      a.within,
      c.texts.invariant.left,
      c.in_ok-spare-2.ensures,
      c.copy_part.ensures.length,
      ap length c.as_bytes.ensures.value,
      padded-long _ _ c.requires.blank.padded,
    )

pub overflow_add-passed : goal.overflow_add-passed
overflow_add-passed g c =
    let a = c.texts.invariant.appended in
    let slot = slot-reached c.as_slice-slots.result.now a (c.as_slice-slots.ensures.value ∙ c.requires.blank.slots) (omega (arith, c.texts-test.true)) in
    omega (arith, slot.after, slot.reach, slot.width_is, c.in_ok-placed.ensures.whole, a.within, c.texts.invariant.left, ap length c.as_bytes-bytes.ensures.value, padded-long _ _ c.requires.blank.padded)

pub texts-preserved : goal.texts-preserved
texts-preserved g c =
    let a = c.texts.invariant.appended in
    let slot = slot-reached c.as_slice-slots.result.now a (c.as_slice-slots.ensures.value ∙ c.requires.blank.slots) (omega (arith, c.texts-test.true)) in
    let text = c.in_ok-placed.placed.text.now in
    let start = (slice_index_or c.as_slice-slots.result.now c.texts.column (record { place = 0; width = 0 })).place + c.in_ok-placed.placed.before in
    let begin = c.texts.end + (start - c.texts.passed) in
    let front = take begin c.copy_part.new.line in
    let copied : take (begin + length text) c.copy_text.new.line ≡ front ++ take (length text) text =
    subst (λ t. take (begin + length t) c.copy_text.new.line ≡ front ++ take (length t) t) c.as_bytes.ensures.value
    (c.copy_text.ensures.copied (length c.as_bytes.result.now) (omega arith)) in
    record {
      appended = text-appended start (take (begin + length text) c.copy_text.new.line) a slot.within c.in_ok-placed.ensures (omega (arith, c.if-slot-eq0.false, slot.width_is))
          (ap (λ n. n + c.in_ok-placed.placed.before) slot.place_is)
          (copied ∙ ap (λ u. front ++ u) (take_all (length text) text (omega arith))
          ∙ ap (λ u. u ++ text) (c.copy_part.ensures.copied
          ∙ ap (λ u. take c.texts.end c.texts.line ++ take (start - c.texts.passed) u) (rest-dropped _ _ c.texts.passed c.as_bytes-bytes.ensures.value)
          ∙ ap (λ u. take c.texts.end c.texts.line ++ u) (padded-part (string_bytes c.args.blank.now.text) _ c.texts.passed (start - c.texts.passed) c.requires.blank.padded
          (omega (arith, slot.after, slot.reach, slot.width_is, c.in_ok-placed.ensures.whole)))))
          (subst IsUtf8 c.as_bytes.ensures.value c.as_bytes.ensures.utf8);
      left = omega (arith, slot.after, slot.reach, slot.width_is, c.in_ok-placed.ensures.whole, a.within, c.texts.invariant.left, c.in_ok-spare-2.ensures, c.copy_part.ensures.length, c.copy_text.ensures.same, padded-long _ _ c.requires.blank.padded);
    }

pub returns : goal.returns
returns g c =
    let a = c.texts.invariant.appended in
    let row = string_bytes c.args.blank.now.text in
    let front = take c.texts.end c.texts.line in
    let count = c.len.result - c.texts.passed in
    let rest : length (drop c.texts.passed row) ≡ count = length-drop c.texts.passed row ∙ omega (arith, c.len.ensures) in
    let all = slots-passed (g.R.Row.sheet c.args.row.now).columns c.as_slice-slots.result.now c.texts.column (c.as_slice-slots.ensures.value ∙ c.requires.blank.slots)
    (let past = c.texts-test.false in let upto = c.texts.auto.column-end in omega (arith, past, upto)) in
    let copied : take (c.texts.end + count) c.copy_part-2.new.line ≡ front ++ take count (drop c.texts.passed row) =
    c.copy_part-2.ensures.copied ∙ ap (λ u. front ++ take count u) (rest-dropped _ _ c.texts.passed c.as_bytes-bytes.ensures.value)
    ∙ ap (λ u. front ++ u) (padded-part row _ c.texts.passed count c.requires.blank.padded (omega (arith, a.within, c.len.ensures))) in
    subst (λ n. IsFilled (g.R.Row.sheet c.args.row.now) c.args.at.now.index c.copy_part-2.new.line (c.texts.end + n)) rest
    (line-filled c.copy_part-2.new.line (drop c.texts.passed row) c.texts.end a all refl
    (subst (λ n. take (c.texts.end + n) c.copy_part-2.new.line ≡ front ++ take n (drop c.texts.passed row)) (sym rest) copied)
    (omega (arith, rest, a.within, c.len.ensures, c.copy_part-2.ensures.length, c.texts.invariant.left, padded-long _ _ c.requires.blank.padded)))
