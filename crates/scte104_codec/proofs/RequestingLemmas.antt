-- What the messages that ask are read as.
use Rattle.std.proofs.Common.{◌≡◌, ℕ, Bool, true, false, List, [], ◌∷◌, ◌<◌, length, refl, subst, ◌∙◌, arith, Some}
use Rattle.std.specs.Prelude.{not, ◌==◌, if◌then◌else◌}
use Rattle.std.proofs.lemmas.List.{append-nil}
use Rattle.scte104_codec.specs.declared.framing.Frame.TheVariants.{Whole}
use Rattle.scte104_codec.specs.declared.head.Head.{Head}
use Rattle.scte104_codec.specs.declared.requests.SpliceRequest.{SpliceRequest}
use Rattle.scte104_codec.specs.Head.{HeadFits}
use Rattle.scte104_codec.specs.Framing.{frame_of}
use Rattle.scte104_codec.specs.Operations.{IsOperation, AreOperations, is_well_formed}
use Rattle.scte104_codec.specs.Requests.{SpliceRequestFits}
use Rattle.scte104_codec.specs.Asked.{splice_request_in, splice_requests}
use Rattle.scte104_codec.specs.Spelling.{IsSingleOperation, IsMultipleOperation}
use Rattle.scte104_codec.specs.Reading.{message_of, init, alive}
use Rattle.scte104_codec.specs.Grammar.{Single, Several, HoldsFields}
use Rattle.scte104_codec.specs.Requesting.{asking_operation, asking_message, asking_bytes, asking_fields, Asks, plain_message, plain_bytes, AsksPlainly}
use Rattle.scte104_codec.proofs.RequestLemmas.{request_back}
use Rattle.scte104_codec.proofs.SingleLemmas.{single_framed, single_back}
use Rattle.scte104_codec.proofs.SeveralLemmas.{several_framed}
use Rattle.scte104_codec.proofs.GrammarLemmas.{multiple_read, single_told, init_read, alive_read}

flag_back : (b : Bool) → b ≡ not ((if b then 1 else 0) == 0)
flag_back true = refl
flag_back false = refl

formed : (r : SpliceRequest) → is_well_formed (asking_operation r) ≡ true
unfolding is_well_formed
formed r = refl

asked : (r : SpliceRequest) → SpliceRequestFits r → splice_request_in (asking_operation r) ≡ Some r
unfolding splice_request_in
asked r fits = request_back r (if r.auto_return then 1 else 0) fits (flag_back r.auto_return)

requests : (r : SpliceRequest) → SpliceRequestFits r → splice_requests (asking_operation r ∷ []) ≡ r ∷ []
requests r fits = rw (asked r fits) refl

operation : (r : SpliceRequest) → IsOperation (asking_operation r)
operation r = record { op = omega arith; data_length = omega arith; well_formed = formed r }

message_fits : (head : Head) (r : SpliceRequest) → HeadFits head → IsMultipleOperation (asking_message head r)
message_fits head r h = record { protocol_version = omega arith; head = h; cue_version = omega arith; time_type = omega arith; some = omega arith; size = omega arith }

-- what is written asks for just that
pub asks : (head : Head) (r : SpliceRequest) → HeadFits head → SpliceRequestFits r → Asks (asking_bytes head r) head r
asks head r h fits =
    let m = asking_message head r in
    let bytes = asking_bytes head r in
    let m-fits = message_fits head r h in
    let several : Several bytes head m = record { fits = m-fits; same_head = refl; whole = refl } in
    let os : AreOperations (asking_operation r ∷ []) = (omega arith, (operation r, tt)) in
    let holds : HoldsFields (asking_fields head r) m = record { version = refl; cue_version = refl; time_kind = refl; timeless = λ z. (os, refl); timed = λ n. absurd (n refl) } in
    record {
      whole = subst (λ (xs : List ℕ). frame_of xs ≡ Whole (length bytes)) (append-nil bytes) (several_framed m [] m-fits);
      fields = multiple_read bytes (asking_fields head r) m several holds;
      request = requests r fits;
    }

plain_fits : (op : ℕ) (head : Head) → op < 65535 → HeadFits head → IsSingleOperation (plain_message op head)
plain_fits op head lt h = record { op = lt; result = omega arith; result_extension = omega arith; protocol_version = omega arith; head = h; size = omega arith }

pub asks_plainly : (op : ℕ) (head : Head) → op < 65535 → HeadFits head → AsksPlainly (plain_bytes op head) op head
asks_plainly op head lt h =
    let m = plain_message op head in
    let bytes = plain_bytes op head in
    let fits = plain_fits op head lt h in
    record { whole = subst (λ (xs : List ℕ). frame_of xs ≡ Whole (length bytes)) (append-nil bytes) (single_framed m [] fits); fields = single_back m fits }

pub plain_single : (op : ℕ) (head : Head) → op < 65535 → HeadFits head → Single (plain_bytes op head) head (plain_message op head)
plain_single op head lt h = record { fits = plain_fits op head lt h; same_head = refl; whole = refl }

pub init_asked : (head : Head) → HeadFits head → message_of (plain_bytes 1 head) ≡ init head
init_asked head h = single_told (plain_bytes 1 head) head (plain_message 1 head) (plain_single 1 head (omega arith) h) ∙ init_read 1 head [] refl

pub alive_asked : (head : Head) → HeadFits head → message_of (plain_bytes 3 head) ≡ alive head []
alive_asked head h = single_told (plain_bytes 3 head) head (plain_message 3 head) (plain_single 3 head (omega arith) h) ∙ alive_read 3 head [] refl (omega arith)
