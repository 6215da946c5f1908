-- The messages by which an automation system asks (ANSI/SCTE 104), each by the fields that are its own.
use Rattle.std.specs.Prelude.{◌≡◌, ℕ, List, [], false}
use Rattle.scte104_codec.specs.declared.head.Head.{Head}
use Rattle.scte104_codec.specs.declared.requests.SpliceRequest.{SpliceRequest}
use Rattle.scte104_codec.specs.Reading.{message_of, init, alive}
use Rattle.scte104_codec.specs.Requesting.{Asks, AsksPlainly}
use Rattle.request_texts.specs.declared.requests.BreakStart.{BreakStart}
use Rattle.request_texts.specs.declared.requests.BreakEnd.{BreakEnd}
use Rattle.request_texts.specs.declared.requests.RequestKind.{RequestKind}
use Rattle.request_texts.specs.declared.requests.RequestKind.TheVariants.{Start, End, Cancel, Init, Alive}

-- splice_request_data of a start: splice_insert_type 1 is spliceStart_normal
abbrev pub start_data : BreakStart → SpliceRequest
start_data s = record {
  splice_insert_type = 1;
  splice_event_id = s.event;
  unique_program_id = s.program_id;
  pre_roll_time = s.pre_roll;
  break_duration = s.duration;
  avail_num = s.avail;
  avails_expected = s.avails;
  auto_return = s.auto_return;
}

-- of an end: 3 is spliceEnd_normal, and of the other fields its time alone has a meaning
abbrev pub end_data : BreakEnd → SpliceRequest
end_data e = record {
  splice_insert_type = 3;
  splice_event_id = e.event;
  unique_program_id = 0;
  pre_roll_time = e.pre_roll;
  break_duration = 0;
  avail_num = 0;
  avails_expected = 0;
  auto_return = false;
}

-- of a cancel: 5 is splice_cancel, and no other field has a meaning
abbrev pub cancel_data : ℕ → SpliceRequest
cancel_data event = record {
  splice_insert_type = 5;
  splice_event_id = event;
  unique_program_id = 0;
  pre_roll_time = 0;
  break_duration = 0;
  avail_num = 0;
  avails_expected = 0;
  auto_return = false;
}

-- THE BYTES ask for just this: they are one whole message with this head, which is read as that request and nothing else
abbrev pub AsksFor : List ℕ → Head → RequestKind → Type 0
AsksFor bytes head (Start s) = Asks bytes head (start_data s)
AsksFor bytes head (End e) = Asks bytes head (end_data e)
AsksFor bytes head (Cancel event) = Asks bytes head (cancel_data event)
AsksFor bytes head Init = AsksPlainly bytes 0x0001 head × (message_of bytes ≡ init head)
AsksFor bytes head Alive = AsksPlainly bytes 0x0003 head × (message_of bytes ≡ alive head [])
