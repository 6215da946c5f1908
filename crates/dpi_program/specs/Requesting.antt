-- What status 0 of `request` says.
use Rattle.std.specs.Prelude.{ℕ, List, Option}
use Rattle.clap.specs.declared.parser.matches.ArgMatches.{ArgMatches}
use Rattle.request_texts.specs.Lines.{PrintsRequest}
use Rattle.request_texts.specs.declared.lines.RequestLine.{RequestLine}
use Rattle.command_lines.specs.Requests.{IsRequestOf}

-- the line was printed that a kind of message of this name and its options ask for
abbrev pub PrintsAsked : List ℕ → ArgMatches → Option (List ℕ) → Option (List ℕ) → Type 0
PrintsAsked name matches old new = (line : RequestLine) × IsRequestOf name matches line × PrintsRequest line old new
