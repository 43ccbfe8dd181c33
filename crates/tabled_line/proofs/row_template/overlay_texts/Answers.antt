use Rattle.tabled_line.proofs.Names.{IsUtf8-nil, IsUtf8-string_bytes, ap, arith, length, refl, slice_index_or, subst, take, take_all, ◌∙◌}
use Rattle.tabled_line.proofs.Names.{◌≡◌}
use Rattle.tabled_line.proofs.Appended.{all-overlaid, none-overlaid, slot-reached, slots-passed, text-overlaid}
use Rattle.tabled_line.proofs.row_template.overlay_texts.Goals as goal

pub texts-init : goal.texts-init
texts-init g c =
    let bytes = c.as_bytes-bytes.result.now in
    let copied : take (length bytes) c.copy_at.new.line ≡ bytes =
    subst (λ n. take n c.copy_at.new.line ≡ take (length bytes) bytes) (omega arith) (c.copy_at.ensures.copied (length bytes) (omega arith))
    ∙ take_all (length bytes) bytes (omega arith) in
    record {
      overlaid = none-overlaid _ _ _ _ (subst (λ b. take (length b) c.copy_at.new.line ≡ b) c.as_bytes-bytes.ensures.value copied)
          c.requires.blank.text IsUtf8-nil (IsUtf8-string_bytes c.args.blank.now.text);
      same = refl;
    }

pub place_text-requires : goal.place_text-requires
place_text-requires g c κs =
    let slot = slot-reached c.as_slice-slots.result.now c.texts.invariant.overlaid.appended (c.as_slice-slots.ensures.value ∙ c.requires.blank.slots) (omega (arith, c.texts-test.true)) in
    ((refl, tt), (c.requires.describes, (slot.within, (slot.width_is, c.requires.at))))

pub overflow_add-slot : goal.overflow_add-slot
overflow_add-slot g c =
    let slot = slot-reached c.as_slice-slots.result.now c.texts.invariant.overlaid.appended (c.as_slice-slots.ensures.value ∙ c.requires.blank.slots) (omega (arith, c.texts-test.true)) in
    omega (arith, slot.reach, slot.width_is, c.in_ok-placed.ensures.whole, ap length c.as_bytes-bytes.ensures.value)

pub copy_text-requires : goal.copy_text-requires
copy_text-requires g c =
    let slot = slot-reached c.as_slice-slots.result.now c.texts.invariant.overlaid.appended (c.as_slice-slots.ensures.value ∙ c.requires.blank.slots) (omega (arith, c.texts-test.true)) in
    omega (
      arith,
      slot.reach,
      slot.width_is,
      c.in_ok-placed.ensures.whole,
      c.if-placed.false,
      ap length c.as_bytes-bytes.ensures.value,
      ap length c.as_bytes.ensures.value,
      c.texts.invariant.same,
      c.copy_at.ensures.same,
      c.if-line-bytes.false,
    )

pub texts-preserved : goal.texts-preserved
texts-preserved g c =
    let slot = slot-reached c.as_slice-slots.result.now c.texts.invariant.overlaid.appended (c.as_slice-slots.ensures.value ∙ c.requires.blank.slots) (omega (arith, c.texts-test.true)) in
    let copied = c.copy_text.ensures in
    record {
      overlaid = text-overlaid (slice_index_or c.as_slice-slots.result.now c.texts.column (record { place = 0; width = 0 })) c.copy_text.new.line c.as_bytes.result.now c.texts.invariant.overlaid slot.within slot.place_is
          c.in_ok-placed.ensures c.if-placed.false c.as_bytes.ensures.value c.as_bytes.ensures.utf8
          (copied.copied (length c.as_bytes.result.now) (omega arith)) copied.rest
          (omega (arith, slot.reach, slot.width_is));
      same = copied.same ∙ c.texts.invariant.same;
    }

pub returns : goal.returns
returns g c =
    let all = slots-passed (g.R.Row.sheet c.args.row.now).columns c.as_slice-slots.result.now c.texts.column (c.as_slice-slots.ensures.value ∙ c.requires.blank.slots)
    (let past = c.texts-test.false in let upto = c.texts.auto.column-end in omega (arith, past, upto)) in
    all-overlaid _ c.texts.invariant.overlaid all (ap length c.as_bytes-bytes.ensures.value)
    (omega (arith, c.texts.invariant.same, c.copy_at.ensures.same, c.if-line-bytes.false))
