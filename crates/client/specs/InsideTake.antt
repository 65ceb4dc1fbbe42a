-- What a private function promises by which a client takes an answer: what comes of one that the phase does not wait for, by its number.
use Rattle.std.specs.Prelude.{ℕ}
use Rattle.client.specs.declared.Phase.{Phase}
use Rattle.client.specs.declared.Phase.TheVariants.{Drawing, Writing, Reading, Filling, Looking, Trimming, Pruning, Sealing, Offering, Starting}
use Rattle.client.specs.declared.Client.{Client}
use Rattle.client.specs.Turn.{Turn, otherwise}
use Rattle.client.specs.Append.{not_written}
use Rattle.client.specs.Fill.{not_filled}
use Rattle.client.specs.Reorganise.{not_started}

abbrev pub refused : Phase → Client → ℕ → Turn
refused (Drawing n) c k = otherwise c k
refused (Writing u n) c k = not_written c u n k
refused (Reading u) c k = otherwise c k
refused (Filling u) c k = not_filled c u k
refused (Looking u) c k = otherwise c k
refused (Trimming u) c k = otherwise c k
refused (Pruning u) c k = otherwise c k
refused (Sealing u e) c k = otherwise c k
refused (Offering p) c k = otherwise c k
refused Starting c k = not_started c k
