-- What a value of `Requests` stands for.
use Rattle.std.specs.Prelude.{◌≡◌, ℕ, List}
use Rattle.event_table.specs.Tables.{StandsFor}
use Rattle.injector.specs.declared.requests.Requests.{Requests}
use Rattle.injector.specs.Turns.{Turn, greatest_in, standing}

-- it stands for a history of turns, with this DPI_PID_index
pub record RequestsStandFor (requests : Requests) (index : ℕ) (past : List Turn) : Type 0 where
  pub index_is : requests.index ≡ index
  pub table : StandsFor requests.table (greatest_in past) (standing index past)
