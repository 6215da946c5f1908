-- The cues of our own are sections that an assembler gives, and go out in one packet each.
use Rattle.std.proofs.Common.{◌≡◌, ℕ, ◌+◌, ◌*◌, ◌<◌, ◌≤◌, false, List, [], ◌∷◌, ◌++◌, length, map, refl, sym, ap, ◌∙◌, arith}
use Rattle.std.specs.Prelude.{All}
use Rattle.std.proofs.lemmas.List.{length-append, append-nil}
use Rattle.std.proofs.lemmas.List.Elements.{All-nil, All-cons, All-head, All-tail}
use Rattle.byteorder.specs.Endian.{big_bytes}
use Rattle.ts_packet.specs.Duplicates.{repeats}
use Rattle.psi_section.specs.Crc.{crc}
use Rattle.psi_section.specs.Sections.{given, sections_after}
use Rattle.psi_section.specs.Packetising.{first_packet, packets_in_turn}
use Rattle.psi_section.specs.Laws.{CanBeGiven}
use Rattle.psi_section.proofs.ReadBackLemmas.{read_back, read_back_in_turn}
use Rattle.psi_section.proofs.GivenLemmas.{can}
use Rattle.psi_section.proofs.PacketiserLemmas.{fits_one}
use Rattle.scte35_codec.specs.declared.cue_out.CueOut.{CueOut}
use Rattle.scte35_codec.specs.declared.cue_out.CueOut.TheVariants.{Start, Cancel, End}
use Rattle.scte35_codec.specs.Reading.{CueReading, cue_of}
use Rattle.scte35_codec.specs.Spelling.{head_bytes, loop_bytes, start_bytes, end_bytes, unchecked_bytes, cue_bytes, told_of, Fits}
use Rattle.scte35_codec.specs.Grammar.{IsClearCommand, Spells}
use Rattle.scte35_codec.specs.Laws.{FitsAPacket}
use Rattle.psi_section.proofs.CrcLemmas.{crc_closed}
use Rattle.scte35_codec.proofs.WrittenLemmas.{section, section_grouped, loop_length, cue_spelled, cue_back}

-- ---- one section

section_size : (command descriptors : ℕ) (text loop check : List ℕ) → length text ≡ command → length loop ≡ 2 + descriptors → length check ≡ 4
    → length (section command descriptors text loop check) ≡ 20 + command + descriptors
section_size command descriptors text loop check t l four =
    let rest = (text ++ loop) ++ check in
    let size : length rest ≡ command + descriptors + 6 = omega (arith, length-append (text ++ loop) check, length-append text loop) in
    let have : length (head_bytes command descriptors ++ rest) ≡ 20 + command + descriptors = omega arith in
    ap length (sym (section_grouped command descriptors text loop check)) ∙ have

-- ---- the three cues

-- no more avails than a cue has room for
abbrev pub HasRoom : CueOut → Type 0
HasRoom (Start event time duration program avail expected avails) = length avails.items < 15
HasRoom (Cancel event) = Unit {0}
HasRoom (End event time) = Unit {0}

pub room_of_fits : (cue : CueOut) → Fits cue → HasRoom cue
room_of_fits (Start event time duration program avail expected avails) fits = fits.4
room_of_fits (Cancel event) fits = tt
room_of_fits (End event time) fits = tt

pub room_of_size : (cue : CueOut) → length (unchecked_bytes cue) ≤ 176 → HasRoom cue
unfolding unchecked_bytes
room_of_size (Start event time duration program avail expected avails) le =
    let ids = avails.items in
    let loop = loop_length ids in
    let size = length-append (head_bytes 20 (10 * length ids) ++ start_bytes event time duration program avail expected) (loop_bytes ids) in
    omega (arith, loop, size, le)
room_of_size (Cancel event) le = tt
room_of_size (End event time) le = tt

pub size_cue : (cue : CueOut) → HasRoom cue → length (cue_bytes cue) ≤ 180
unfolding cue_bytes unchecked_bytes
size_cue (Start event time duration program avail expected avails) few =
    let ids = avails.items in
    let text = start_bytes event time duration program avail expected in
    let check = big_bytes 4 (crc (head_bytes 20 (10 * length ids) ++ text ++ loop_bytes ids)) in
    let size = section_size 20 (10 * length ids) text (loop_bytes ids) check refl (loop_length ids) refl in
    omega (arith, size, few)
size_cue (Cancel event) few =
    let text = big_bytes 4 event ++ (0xFF ∷ []) in
    let check = big_bytes 4 (crc (head_bytes 5 0 ++ text ++ loop_bytes [])) in
    let size = section_size 5 0 text (loop_bytes []) check refl refl refl in
    omega (arith, size)
size_cue (End event time) few =
    let text = end_bytes event time in
    let check = big_bytes 4 (crc (head_bytes 15 0 ++ text ++ loop_bytes [])) in
    let size = section_size 15 0 text (loop_bytes []) check refl refl refl in
    omega (arith, size)

checked_cue : (cue : CueOut) → crc (cue_bytes cue) ≡ 0
unfolding cue_bytes
checked_cue cue = crc_closed (unchecked_bytes cue)

-- what is spelled is clear, and so its section_length is that of its bytes
clear_of : (cue : CueOut) → Spells (told_of cue) (cue_bytes cue) → IsClearCommand 5 (cue_bytes cue)
clear_of (Start event time duration program avail expected avails) s = s.0
clear_of (Cancel event) s = s.0
clear_of (End event time) s = s.0

not_stuffing : (x : ℕ) → x ≡ 0xFC → x ≡ 0xFF → ⊥
not_stuffing x a b = omega arith

pub cue_given : (cue : CueOut) → Fits cue → CanBeGiven (cue_bytes cue)
cue_given cue fits =
    let clear = clear_of cue (cue_spelled cue fits) in
    let section = clear.section.section in
    let size = size_cue cue (room_of_fits cue fits) in
    can (cue_bytes cue)
    (record {
      table_id = not_stuffing _ section.cue.table_id;
      least = omega (arith, section.cue.size);
      most = omega (arith, size);
      size = section.size;
      checked = λ t. checked_cue cue;
    })

-- ---- its packet

pub cue_fits : (cue : CueOut) → Fits cue → FitsAPacket cue
cue_fits cue fits =
    let size = size_cue cue (room_of_fits cue fits) in
    record { given = cue_given cue fits; size = size; packet = λ pid n. fits_one pid n (cue_bytes cue) (omega (arith, size)) }

pub packet_back : (cue : CueOut) (pid n : ℕ) (past : List (List ℕ)) → Fits cue → pid < 8192 → n < 16 → repeats pid (first_packet pid n (cue_bytes cue)) past ≡ false
    → map cue_of (given pid (first_packet pid n (cue_bytes cue)) past) ≡ told_of cue ∷ []
packet_back cue pid n past fits pb nb fresh =
    let s = cue_bytes cue in
    let can = cue_given cue fits in
    let one = (cue_fits cue fits).packet pid n in
    let back : sections_after past pid (first_packet pid n s ∷ []) ≡ s ∷ [] = ap (sections_after past pid) (sym one) ∙ read_back s can pid n past pb nb fresh in
    let alone : given pid (first_packet pid n s) past ≡ s ∷ [] = sym (append-nil (given pid (first_packet pid n s) past)) ∙ back in
    ap (map cue_of) alone ∙ ap (λ (r : CueReading). r ∷ []) (cue_back cue fits).1

all_given : (cues : List CueOut) → All Fits cues → All CanBeGiven (map cue_bytes cues)
all_given [] fits = All-nil CanBeGiven
all_given (cue ∷ cues) fits =
    All-cons CanBeGiven (cue_bytes cue) (map cue_bytes cues) (cue_given cue (All-head Fits cue cues fits)) (all_given cues (All-tail Fits cue cues fits))

all_told : (cues : List CueOut) → All Fits cues → map cue_of (map cue_bytes cues) ≡ map told_of cues
all_told [] fits = refl
all_told (cue ∷ cues) fits =
    let first = (cue_back cue (All-head Fits cue cues fits)).1 in
    let others = all_told cues (All-tail Fits cue cues fits) in
    ap (λ (r : CueReading). r ∷ map cue_of (map cue_bytes cues)) first ∙ ap (λ (rs : List CueReading). told_of cue ∷ rs) others

pub packets_back_in_turn : (cues : List CueOut) (pid n : ℕ) (past : List (List ℕ)) → All Fits cues → pid < 8192 → n < 16
    → ((s : List ℕ) → repeats pid (first_packet pid n s) past ≡ false)
    → map cue_of (sections_after past pid (packets_in_turn pid n (map cue_bytes cues))) ≡ map told_of cues
packets_back_in_turn cues pid n past fits pb nb fresh =
    ap (map cue_of) (read_back_in_turn pid n (map cue_bytes cues) past pb nb (all_given cues fits) fresh) ∙ all_told cues fits
