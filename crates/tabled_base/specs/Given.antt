-- What an iterator over a row yields to a builder.
use Rattle.std.specs.Prelude.{List}
use Rattle.std.specs.declared.option.Option.{Option}
use Rattle.std.specs.Iterator.{Drains}

-- an iterator that `into_iter` makes of the cells yields exactly these items
pub record Given {U S A : Type 0} (becomes : U → S → Type 0) (steps : S → Option A → S → Type 0) (cells : U) (items : List A) : Type 0 where
  pub iterator : S
  pub made : becomes cells iterator
  pub drained : Drains steps iterator items
