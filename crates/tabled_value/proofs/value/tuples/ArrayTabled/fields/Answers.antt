use Rattle.tabled_value.proofs.Names.{Says, cow_str_bytes, rules}
use Rattle.tabled_value.proofs.Joining.{next_item}
use Rattle.tabled_value.proofs.value.tuples.ArrayTabled.fields.Goals as goal

pub items-preserved : goal.items-preserved
items-preserved g c = record {
  texts =
      next_item (λ item text. Says (g.T.Display.output item) text) cow_str_bytes c.args.self.now c.items.item-index c.item-item.result
      c.items.texts.items c.push.new.self.items c.in_ok-displayed.field-0 (search rules) c.in_ok-push.ensures.items c.items.invariant.texts
      c.in_ok-displayed.ensures.text;
  length = search rules;
}
