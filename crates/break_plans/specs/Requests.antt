-- The requests of lines (ANSI/SCTE 104, splice_request_data): splice_insert_type is 1 for a start, 3 for an end and 5 for a cancel;
-- auto_return_flag is set, as a break ends by itself.
use Rattle.std.specs.Prelude.{ℕ, true}
use Rattle.scte104_codec.specs.declared.requests.SpliceRequest.{SpliceRequest}

abbrev pub request_of : ℕ → ℕ → ℕ → ℕ → ℕ → SpliceRequest
request_of kind event advert pre_roll tenths = record {
  splice_insert_type = kind;
  splice_event_id = event;
  unique_program_id = advert;
  pre_roll_time = pre_roll;
  break_duration = tenths;
  avail_num = 0;
  avails_expected = 0;
  auto_return = true;
}

-- event, advertisement, pre-roll in milliseconds, length in tenths of a second
abbrev pub start_request : ℕ → ℕ → ℕ → ℕ → SpliceRequest
start_request event advert pre_roll tenths = request_of 1 event advert pre_roll tenths

abbrev pub end_request : ℕ → ℕ → SpliceRequest
end_request event pre_roll = request_of 3 event 0 pre_roll 0

abbrev pub cancel_request : ℕ → SpliceRequest
cancel_request event = request_of 5 event 0 0 0
