-- The lines of a report: a word, a space, and a number in decimal digits each.
use Rattle.std.specs.Prelude.{ℕ, List, [], ◌∷◌, ◌++◌, Bool, cond, codes}
use Rattle.std.specs.Fmt.{decimal}
use Rattle.chain_engine.specs.declared.report.Report.{Report}
use Rattle.splice_plans.specs.declared.report.SwitchReport.{SwitchReport}
use Rattle.report_texts.specs.declared.lines.AirCounts.{AirCounts}

-- one line
abbrev pub count_line : List ℕ → ℕ → List ℕ
count_line word number = word ++ (32 ∷ decimal number ++ 10 ∷ [])

-- the messages that were judged, and of the requests among them those that were accepted and those that were refused
abbrev pub message_lines : ℕ → ℕ → ℕ → List ℕ
message_lines messages accepted refused = count_line (codes "messages") messages ++ (count_line (codes "accepted") accepted ++ count_line (codes "refused") refused)

-- the events that were played, those without an advertisement that fits, those at whose edges a stream is not conditioned, and the cues that were ignored
abbrev pub switch_lines : SwitchReport → List ℕ
switch_lines r = count_line (codes "played") r.played ++ (count_line (codes "not-fitted") r.not_fitted
    ++ (count_line (codes "unconditioned") r.unconditioned ++ count_line (codes "ignored") r.ignored))

-- of a service: the number of its program, and its events
abbrev pub service_lines : ℕ → SwitchReport → List ℕ
service_lines program r = count_line (codes "service") program ++ switch_lines r

-- of a run with cues: its messages, and of one that plays advertisements its events behind them
abbrev pub report_lines : Bool → Report → List ℕ
report_lines plays r = message_lines r.messages r.accepted r.refused ++ cond plays (switch_lines r.switch) []

-- of a run on air, behind these: its stretches, the events that were lost at the end of one, the packets left unjudged, those marked in error,
-- and the bytes left out
abbrev pub air_lines : AirCounts → List ℕ
air_lines r = count_line (codes "stretches") r.stretches ++ (count_line (codes "lost") r.lost ++ (count_line (codes "unjudged") r.unjudged
    ++ (count_line (codes "mended") r.mended ++ count_line (codes "skipped") r.skipped)))
