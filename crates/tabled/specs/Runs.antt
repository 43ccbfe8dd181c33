-- What a run of the program leaves in its reader and its writer.
use Rattle.std.specs.Prelude.{◌≡◌, ◌⊎◌, ℕ, List, [], Option, IfSome, IsUtf8}
use Rattle.std.specs.Io.KnownBytes.{Appends, IsAtEnd}
use Rattle.tabled.specs.declared.program.Fault.{Fault}
use Rattle.tabled_base.specs.declared.error.TableError.TheVariants.{Memory, Range, Writer}
use Rattle.tabled.specs.declared.program.Fault.TheVariants.{Input, Table}
use Rattle.tabled.specs.declared.arguments.Plan.{Plan}
use Rattle.tabled.specs.Output.{Begins, IsOutput, Overflows}
use Rattle.tabled.specs.Arguments.{SpellsPlan}

-- the text is all that was left in the reader, and now nothing is left
pub record HasRead (old new : Option (List ℕ)) (text : List ℕ) : Type 0 where
  pub is_text : IsUtf8 text
  pub whole : IfSome old (λ all. text ≡ all)
  pub ended : IsAtEnd new

-- all was read, and its output was written
pub record HasPrinted (plan : Plan) (old left held holds : Option (List ℕ)) : Type 0 where
  pub text : List ℕ
  pub input : HasRead old left text
  pub output : List ℕ
  pub is_output : IsOutput plan text output
  pub added : Appends held holds output

-- all was read, and a beginning of its output was written
pub record HasBegun (plan : Plan) (old left held holds : Option (List ℕ)) : Type 0 where
  pub text : List ℕ
  pub input : HasRead old left text
  pub output : List ℕ
  pub is_output : IsOutput plan text output
  pub begun : Begins held holds output

-- all was read, a total of its table passes `usize::MAX`, and nothing was written
pub record HasOverflowed (plan : Plan) (old left held holds : Option (List ℕ)) : Type 0 where
  pub text : List ℕ
  pub input : HasRead old left text
  pub overflows : Overflows plan text
  pub kept : Appends held holds []

-- a run of the program: its arguments, what was left in its reader before it and is left after it,
-- and the writer that it prints to, before it and after it
pub record ProgramRun (O : Type 0) : Type 0 where
  pub arguments : List (List ℕ)
  pub input_before : Option (List ℕ)
  pub input_after : Option (List ℕ)
  pub out_before : O
  pub out_after : O

-- what a failed run leaves, by its fault. `Input`: the writer as it was. `Memory`: nothing written,
-- or a beginning of the output. `Range`: nothing written. `Writer`: a beginning of the output.
-- Other faults don't occur with valid arguments
abbrev pub HasFailed : {O : Type 0} → (O → Option (List ℕ)) → ProgramRun O → Fault → Type 0
HasFailed contents run Input = run.out_after ≡ run.out_before
HasFailed contents run (Table Memory) =
    Appends (contents run.out_before) (contents run.out_after) []
    ⊎ ((plan : Plan) × SpellsPlan run.arguments plan
    × HasBegun plan run.input_before run.input_after (contents run.out_before) (contents run.out_after))
HasFailed contents run (Table Range) =
    (plan : Plan) × SpellsPlan run.arguments plan
    × HasOverflowed plan run.input_before run.input_after (contents run.out_before) (contents run.out_after)
HasFailed contents run (Table Writer) =
    (plan : Plan) × SpellsPlan run.arguments plan
    × HasBegun plan run.input_before run.input_after (contents run.out_before) (contents run.out_after)
HasFailed contents run _ = ⊥
