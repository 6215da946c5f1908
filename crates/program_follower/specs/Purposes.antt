-- What a network is followed for, by each of those who follow one.
use Rattle.std.specs.Prelude.{true, false, ℕ, Option, Some, None}
use Rattle.psi_tables.specs.declared.config.Config.{Config}
use Rattle.program_follower.specs.declared.purpose.Purpose.{Purpose}

-- to put cues into it (SCTE 35, 7), for a program, or the first one, and on a PID: no packet and no entry may be on that PID, and the map of the
-- program needs room for the entry of the cues
abbrev pub cues_written_on : Option ℕ → ℕ → Purpose
cues_written_on program pid = record { program = program; cue_pid = Some pid; writes_cues = true }

abbrev pub writing_cues : Config → Purpose
writing_cues k = cues_written_on (Some k.program) k.cue_pid

-- to follow its cues
abbrev pub cues_read_on : Option ℕ → ℕ → Purpose
cues_read_on program pid = record { program = program; cue_pid = Some pid; writes_cues = false }

abbrev pub reading_cues : Config → Purpose
reading_cues k = cues_read_on (Some k.program) k.cue_pid

-- to read an advertisement, the first program of its own stream
abbrev pub reading_advertisement : Purpose
reading_advertisement = record { program = None; cue_pid = None; writes_cues = false }
