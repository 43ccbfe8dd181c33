use Rattle.tabled_table.proofs.Stream.StreamedTexts.{streamed_holds, streamed_rectangular, streamed_texts}
use Rattle.tabled_table.proofs.laws.streams_hold.Goals as goal

pub returns : goal.returns
returns g = record {
  rectangular = λ settings config ahead_rows rows t s. streamed_rectangular s;
  texts = λ settings config ahead_rows rows t s. streamed_texts s;
  holds = λ settings config ahead_rows rows t s. streamed_holds s;
}
