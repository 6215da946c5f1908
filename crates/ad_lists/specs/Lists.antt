-- Lists of advertisements: which text is one, what a library holds that was loaded from it, and why one is not loaded. Lines stand newest
-- first. A line ends with a line feed, which may be missing behind the last one.
use Rattle.std.specs.Prelude.{◌≡◌, ◌↔◌, ◌⊎◌, ◌≤◌, ◌+◌, ◌-◌, ◌^◌, ℕ, List, [], ◌∷◌, ◌++◌, length, reverse, Bool, true, false, not, ◌&&◌, ◌||◌, ◌==◌, cond, nat_lt, Option, None, Some, is_some, IfSome, IsSome}
use Rattle.std.specs.List.{list_all, list_any, before_first, after_first}
use Rattle.std.specs.Char.{is_ascii_whitespace}
use Rattle.std.specs.Str.{is_utf8}
use Rattle.std.specs.declared.fs.attrs.Metadata.{Metadata}
use Rattle.indexmap.specs.IndexMap.{index_map_len}
use Rattle.ts_packet.specs.declared.tally.Tally.{Tally}
use Rattle.ts_packet.specs.Packets.{packets_of}
use Rattle.ts_packet.specs.Sources.{HasRead, WasGiven, Refuses, SourceBlamed}
use Rattle.ts_packet.specs.declared.reader.ReadFault.{ReadFault}
use Rattle.std.specs.Io.KnownBytes.{IsAtEnd}
use Rattle.ts_packet.specs.Transfers.{WentWell, LastMovedNone, LastFailed, TookTurns, FallsShort, NoneFailed}
use Rattle.ad_library.specs.declared.library.AdLibrary.{AdLibrary}
use Rattle.ad_library.specs.declared.fault.AdFault.{AdFault}
use Rattle.ad_library.specs.declared.fault.AdFault.TheVariants as ad
use Rattle.ad_library.specs.Advertisements.{Advertisement, advertisement}
use Rattle.ad_library.specs.Faults.{Says, StreamBlamed, IsWhatIsWrong, of_read, ad_fault_at, end_fault}
use Rattle.ad_library.specs.Reading.{AreClean}
use Rattle.ad_library.specs.Stops.{IfOfStream}
use Rattle.ad_library.specs.Library.{held, filed}
use Rattle.psi_section.specs.Assembling.{capped}
use Rattle.decimal_numbers.specs.Numbers.{number_below}
use Rattle.ad_lists.specs.declared.list.Loading.{Loading}
use Rattle.ad_lists.specs.declared.list.ListFault.{ListFault}
use Rattle.ad_lists.specs.declared.list.ListFault.TheVariants.{BadList, File, Io, Turns, Ad, OutOfMemory}

-- ---- one line

-- white space alone, or nothing: it is passed over
abbrev pub is_blank : List ℕ → Bool
is_blank line = list_all is_ascii_whitespace line

abbrev pub is_space : ℕ → Bool
is_space b = b == 32

-- a number and a path, where both are there
abbrev pub paired : Option ℕ → List ℕ → Option (ℕ × List ℕ)
paired None path = None
paired (Some id) path = Some (id, path)

-- THE NUMBER AND THE PATH of a line: digits alone of a number below 65,536, one space, and the rest of the line, which is not empty; all of
-- it is text
abbrev pub entry_of : List ℕ → Option (ℕ × List ℕ)
entry_of line = cond (is_utf8 line && nat_lt 0 (length (after_first is_space line)))
    (paired (number_below (before_first is_space line) (2 ^ 16)) (after_first is_space line)) None

-- a line that is not refused
abbrev pub is_list_line : List ℕ → Bool
is_list_line line = is_blank line || is_some (entry_of line)

-- ---- many lines

-- no byte is a line feed
abbrev pub is_line : List ℕ → Bool
is_line bs = list_all (λ b. not (b == 10)) bs

-- the text of these lines, each with its end
abbrev pub text_of : List (List ℕ) → List ℕ
text_of [] = []
text_of (l ∷ ls) = text_of ls ++ (l ++ 10 ∷ [])

-- the numbers of lines, with that of one more
abbrev pub with_number : Option (ℕ × List ℕ) → List ℕ → List ℕ
with_number None ns = ns
with_number (Some e) ns = e.0 ∷ ns

abbrev pub numbers_of : List (List ℕ) → List ℕ
numbers_of [] = []
numbers_of (l ∷ ls) = cond (is_blank l) (numbers_of ls) (with_number (entry_of l) (numbers_of ls))

abbrev pub has_number : ℕ → List ℕ → Bool
has_number id ns = list_any (λ n. id == n) ns

-- no number stands twice
abbrev pub are_apart : List ℕ → Bool
are_apart [] = true
are_apart (n ∷ ns) = not (has_number n ns) && are_apart ns

-- ---- the library

-- the advertisement of some packets
abbrev pub IsAdvert : Advertisement → Type 0
IsAdvert a = (ps : List (List ℕ)) × (advertisement ps ≡ Some a)

-- one more was filed, of packets which are those of the stream's bytes where these are known
pub record FilesOne {A : Type 0} (known : Option (List ℕ)) (old new : AdLibrary A) (id : ℕ) : Type 0 where
  pub packets : List (List ℕ)
  pub advert : Advertisement
  pub known_is : IfSome known (λ bs. packets ≡ packets_of bs)
  pub advert_is : advertisement packets ≡ Some advert
  pub filed_is : (other : ℕ) → held new other ≡ filed (held old) id (Some advert) other
  pub none : held old id ≡ None
  pub size : index_map_len new.adverts ≡ index_map_len old.adverts + 1

-- THE LIBRARY of these lines: none is bad and no number stands twice; an advertisement is filed under each of their numbers, and nothing else
pub record IsFiled {A : Type 0} (library : AdLibrary A) (ls : List (List ℕ)) : Type 0 where
  pub good : list_all is_list_line ls ≡ true
  pub apart : are_apart (numbers_of ls) ≡ true
  pub numbers : (id : ℕ) → is_some (held library id) ≡ has_number id (numbers_of ls)
  pub adverts : (id : ℕ) → IfSome (held library id) IsAdvert
  pub size : index_map_len library.adverts ≡ length (numbers_of ls)

-- how many advertisements it has
abbrev pub count_of : {A : Type 0} → AdLibrary A → ℕ
count_of library = index_map_len library.adverts

-- each stream of a library is described: there is one description for each advertisement
abbrev pub AreDescribed : {A : Type 0} → List Metadata → AdLibrary A → Type 0
AreDescribed streams library = length streams ≡ count_of library

-- the number of the line behind these, from 1
abbrev pub number_behind : List (List ℕ) → ℕ
number_behind before = capped (1 + length before)

-- the list was read so far
pub record IsRead {A : Type 0} (loading : Loading A) (text : List ℕ) : Type 0 where
  pub before : List (List ℕ)
  pub number_is : loading.number ≡ number_behind before
  pub text_is : text ≡ text_of before ++ loading.line.items
  pub line : is_line loading.line.items ≡ true
  pub lines : list_all is_line before ≡ true
  pub filed : IsFiled loading.library before
  pub described : AreDescribed loading.streams.items loading.library

-- THE LIBRARY OF A LIST: that of its lines
pub record IsListed {A : Type 0} (library : AdLibrary A) (text : List ℕ) : Type 0 where
  pub before : List (List ℕ)
  pub last : List ℕ
  pub text_is : text ≡ text_of before ++ last
  pub line : is_line last ≡ true
  pub lines : list_all is_line before ≡ true
  pub filed : IsFiled library (last ∷ before)

-- ---- why a list is not loaded

-- the two faults of a library come exactly where the number is filed, and where it is not and 64 are
abbrev pub BlamesAd : AdFault → Bool → ℕ → Type 0
BlamesAd fault there count =
    (fault ≡ ad.Exists ↔ there ≡ true) × (fault ≡ ad.Many ↔ ((there ≡ false) × (64 ≤ count)))

-- of a stream's bytes: what is wrong with them is the first that is
abbrev pub SaysOf : ListFault → List ℕ → Type 0
SaysOf BadList = λ bs. Unit {0}
SaysOf File = λ bs. Unit {0}
SaysOf Io = λ bs. Unit {0}
SaysOf Turns = λ bs. Unit {0}
SaysOf (Ad fault) = Says fault
SaysOf OutOfMemory = λ bs. Unit {0}

-- of a stream: what of the library's state each fault tells
abbrev pub BlamesStream : ListFault → Bool → ℕ → Type 0
BlamesStream BadList there count = ⊥
BlamesStream File there count = Unit {0}
BlamesStream Io there count = ⊥
BlamesStream Turns there count = ⊥
BlamesStream (Ad fault) there count = BlamesAd fault there count
BlamesStream OutOfMemory there count = Unit {0}

-- of a stream's device: what its reads came to where the stream is refused so. Io is told only where the last one failed, and all else
-- where none did.
abbrev pub DeviceBlamed : ListFault → Tally → Tally → Type 0
DeviceBlamed BadList old new = ⊥
DeviceBlamed File old new = ⊥
DeviceBlamed Io old new = ⊥
DeviceBlamed Turns old new = ⊥
DeviceBlamed (Ad fault) old new = StreamBlamed fault old new
DeviceBlamed OutOfMemory old new = NoneFailed old new

-- The reads of a device for one packet took all their turns: from some state of it on, up to which all went well, they gave fewer bytes
-- than a packet takes; or as many packets as may be were given. The functions are the device's.
abbrev pub StallsOver : {X : Type 0} → (X → Tally) → (X → Option (List ℕ)) → X → X → Type 0
StallsOver {X} counts remaining first now =
    ((at : X) × WentWell (counts first) (counts at) × TookTurns (2 ^ 20) (counts at) (counts now) × FallsShort 188 (remaining at) (remaining now))
    ⊎ ((rest : Option (List ℕ)) × (ps : List (List ℕ)) × HasRead (remaining first) rest ps × (length ps ≡ 2 ^ 64 - 1))

-- the last packet, or what was no packet, behind these
abbrev pub LastOver : {X : Type 0} → (X → Tally) → (X → Option (List ℕ)) → AdFault → List (List ℕ) → X → X → Type 0
LastOver counts remaining fault ps at now =
    ((f : ReadFault) × (fault ≡ of_read f) × Refuses false (remaining at) f × SourceBlamed f (length ps) (counts at) (counts now))
    ⊎ (((p : List ℕ) × WasGiven (remaining at) (remaining now) p × WentWell (counts at) (counts now) × IsWhatIsWrong (ad_fault_at p (reverse ps)) fault)
    ⊎ (IsAtEnd (remaining at) × IsAtEnd (remaining now) × LastMovedNone (counts at) (counts now) × IsWhatIsWrong (end_fault ps) fault))

-- Where a device stops: nothing is wrong with the packets that were read up to some state of it, and behind that it gave one packet more with
-- which this is wrong, or the end of a stream with which this is wrong, or what is no packet. So nothing is read behind a fault.
pub record StopsOver {X : Type 0} (counts : X → Tally) (remaining : X → Option (List ℕ)) (fault : AdFault) (first now : X) : Type 0 where
  pub packets : List (List ℕ)
  pub at : X
  pub read : HasRead (remaining first) (remaining at) packets
  pub clean : AreClean packets
  pub last : LastOver counts remaining fault packets at now

abbrev pub DeviceStopsAt : {X : Type 0} → (X → Tally) → (X → Option (List ℕ)) → ListFault → X → X → Type 0
DeviceStopsAt counts remaining BadList first now = ⊥
DeviceStopsAt counts remaining File first now = ⊥
DeviceStopsAt counts remaining Io first now = ⊥
DeviceStopsAt counts remaining Turns first now = ⊥
DeviceStopsAt counts remaining (Ad fault) first now = IfOfStream fault (StopsOver counts remaining fault first now)
DeviceStopsAt counts remaining OutOfMemory first now = StopsOver counts remaining ad.OutOfMemory first now

-- of a line behind these numbers: a bad one is neither blank nor an entry; the other faults come at entries
abbrev pub BlamesLine : ListFault → List ℕ → List ℕ → Type 0
BlamesLine BadList line ns = is_list_line line ≡ false
BlamesLine File line ns = IsSome (entry_of line)
BlamesLine Io line ns = ⊥
BlamesLine Turns line ns = ⊥
BlamesLine (Ad fault) line ns =
    (e : ℕ × List ℕ) × (entry_of line ≡ Some e) × BlamesAd fault (has_number e.0 ns) (length ns)
BlamesLine OutOfMemory line ns = IsSome (entry_of line)

-- the line ends before these bytes
abbrev pub EndsLine : List ℕ → Type 0
EndsLine [] = Unit {0}
EndsLine (b ∷ bs) = b ≡ 10

-- where a line is to blame, it is a whole one
abbrev pub Blames : ListFault → List ℕ → List ℕ → List ℕ → Type 0
Blames BadList line rest ns = EndsLine rest × BlamesLine BadList line ns
Blames File line rest ns = EndsLine rest × BlamesLine File line ns
Blames Io line rest ns = Unit {0}
Blames Turns line rest ns = Unit {0}
Blames (Ad fault) line rest ns = EndsLine rest × BlamesLine (Ad fault) line ns
Blames OutOfMemory line rest ns = Unit {0}

-- WHERE A LIST STOPS: the lines before are good and their numbers differ, and the fault is to be blamed on what comes behind them
pub record StopsAt (fault : ListFault) (text : List ℕ) : Type 0 where
  pub before : List (List ℕ)
  pub part : List ℕ
  pub rest : List ℕ
  pub text_is : text ≡ text_of before ++ (part ++ rest)
  pub line : is_line part ≡ true
  pub lines : list_all is_line before ≡ true
  pub good : list_all is_list_line before ≡ true
  pub apart : are_apart (numbers_of before) ≡ true
  pub blamed : Blames fault part rest (numbers_of before)

-- WHERE A LOADING STANDS in a text: in the line behind these, of which it has the number and as many bytes as were read
pub record StandsIn {A : Type 0} (loading : Loading A) (text : List ℕ) : Type 0 where
  pub before : List (List ℕ)
  pub rest : List ℕ
  pub text_is : text ≡ text_of before ++ (loading.line.items ++ rest)
  pub line : is_line loading.line.items ≡ true
  pub lines : list_all is_line before ≡ true
  pub number_is : loading.number ≡ number_behind before

-- What the reads of a list came to where it was not loaded: what is wrong with a line, or memory for it, comes behind reads that went well,
-- or at the end.
abbrev pub ListBlamed : ListFault → Tally → Tally → Type 0
ListBlamed BadList old new = WentWell old new ⊎ LastMovedNone old new
ListBlamed File old new = WentWell old new ⊎ LastMovedNone old new
ListBlamed Io old new = LastFailed old new
ListBlamed Turns old new = TookTurns (2 ^ 32) old new
ListBlamed (Ad fault) old new = WentWell old new ⊎ LastMovedNone old new
ListBlamed OutOfMemory old new = WentWell old new ⊎ LastMovedNone old new

-- a line of the list is at fault, and not its device or memory
abbrev pub is_at_line : ListFault → Bool
is_at_line BadList = true
is_at_line File = true
is_at_line Io = false
is_at_line Turns = false
is_at_line (Ad fault) = true
is_at_line OutOfMemory = false

-- no read of the list is to blame
abbrev pub IsOfLine : ListFault → Type 0
IsOfLine BadList = Unit {0}
IsOfLine File = Unit {0}
IsOfLine Io = ⊥
IsOfLine Turns = ⊥
IsOfLine (Ad fault) = Unit {0}
IsOfLine OutOfMemory = Unit {0}
