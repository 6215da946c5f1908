-- Lines of a list, read and loaded one after another.
use Rattle.std.proofs.Common.{◌≡◌, ◌≢◌, ℕ, suc, ◌+◌, ◌-◌, ◌^◌, ◌<◌, List, [], ◌∷◌, ◌++◌, length, Bool, true, false, not, ◌&&◌, ◌||◌, ◌==◌, cond, nat_lt, Option, Some, None, is_some, refl, sym, ap, ◌∙◌, subst, append_assoc, arith, ◌⊎◌, inl, inr}
use Rattle.std.specs.Prelude.{if◌then◌else◌, IfSome, min}
use Rattle.psi_section.specs.Assembling.{capped}
use Rattle.std.proofs.lemmas.List.{append-nil}
use Rattle.std.specs.Io.KnownBytes.{Consumes}
use Rattle.indexmap.specs.IndexMap.{index_map_len}
use Rattle.ts_packet.specs.declared.tally.Tally.{Tally}
use Rattle.ts_packet.specs.Sources.{HasRead, Stalled, Exhausted, SourceBlamed}
use Rattle.ts_packet.specs.Transfers.{WentWell, TookTurns, FallsShort}
use Rattle.ad_library.specs.declared.library.AdLibrary.{AdLibrary}
use Rattle.ad_library.specs.declared.fault.AdFault.{AdFault}
use Rattle.ad_library.specs.Stops.{StoppedAt, LastReadCameTo}
use Rattle.ad_library.specs.Advertisements.{Advertisement}
use Rattle.ad_library.specs.Library.{held}
use Rattle.decimal_numbers.specs.Numbers.{number_below}
use Rattle.ad_lists.specs.Lists.{is_blank, entry_of, paired, is_list_line, is_line, text_of, with_number, numbers_of, has_number, are_apart, IsAdvert, FilesOne, IsFiled, AreDescribed, IsRead, StandsIn, BlamesAd, BlamesStream, BlamesLine, EndsLine, Blames, StopsAt, StallsOver, StopsOver, LastOver}
use Rattle.ad_lists.specs.declared.list.Loading.{Loading}
use Rattle.ad_lists.specs.declared.list.ListFault.{ListFault}
use Rattle.ad_lists.specs.declared.list.ListFault.TheVariants.{BadList, File, Io, Turns, Ad, OutOfMemory}

-- ---- one line

-- bytes that are no text are no entry
pub no_text : {X : Type 0} (u w : Bool) (x : Option X) → u ≢ true → None ≡ cond (u && w) x None
no_text true w x broken = absurd (broken refl)
no_text false w x broken = refl

-- what a line's two parts give
pub given : (u : Bool) (id : ℕ) (path after before : List ℕ) → u ≡ true → path ≡ after → 0 < length path → Some id ≡ number_below before (2 ^ 16)
    → Some (id, path) ≡ cond (u && nat_lt 0 (length after)) (paired (number_below before (2 ^ 16)) after) None
given u id path after before text same some number =
    let long : nat_lt 0 (length after) ≡ true = grind (arith, some, ap length same) in
    ap (λ p. Some (id, p)) same ∙ ap (λ o. paired o after) number
    ∙ (λ i. cond (sym text i && sym long i) (paired (number_below before (2 ^ 16)) after) None)

-- ---- the text

-- a byte that is no line feed is of the line
pub line_push : (bs : List ℕ) (b : ℕ) → is_line bs ≡ true → (b == 10) ≡ false → is_line (bs ++ b ∷ []) ≡ true
line_push [] b h other = ap (λ t. not t && true) other
line_push (x ∷ bs) b h other =
    let parts = both (not (x == 10)) (is_line bs) h in
    λ i. parts.0 i && line_push bs b parts.1 other i
  where
    both : (p q : Bool) → (p && q) ≡ true → (p ≡ true) × (q ≡ true)
    both true q e = (refl, e)
    both false q e = absurd (grind (arith, e))

-- a byte more of a line
pub pushed : {A : Type 0} (old new : Loading A) (b : ℕ) (text : List ℕ) → (b == 10) ≡ false → new.library ≡ old.library → new.streams ≡ old.streams → new.line.items ≡ old.line.items ++ b ∷ []
    → new.number ≡ old.number → IsRead old text → IsRead new (text ++ b ∷ [])
pushed old new b text other same streams items number h = record {
  before = h.before;
  number_is = number ∙ h.number_is;
  text_is = ap (λ t. t ++ b ∷ []) h.text_is ∙ append_assoc (text_of h.before) old.line.items (b ∷ []) ∙ ap (λ x. text_of h.before ++ x) (sym items);
  line = ap is_line items ∙ line_push old.line.items b h.line other;
  lines = h.lines;
  filed = subst (λ library. IsFiled library h.before) (sym same) h.filed;
  described = ap (λ v. length v.items) streams ∙ h.described ∙ ap (λ library. index_map_len library.adverts) (sym same);
}

one_more : (n : ℕ) → min (capped (1 + n) + 1) (2 ^ 64 - 1) ≡ capped (1 + suc n)
one_more n = omega arith

-- the end of a line
pub ended : {A : Type 0} (old new : Loading A) (b : ℕ) (text : List ℕ) → b ≡ 10 → new.line.items ≡ [] → new.number ≡ min (old.number + 1) (2 ^ 64 - 1)
    → (h : IsRead old text) → IsFiled new.library (old.line.items ∷ h.before) → AreDescribed new.streams.items new.library → IsRead new (text ++ b ∷ [])
ended old new b text end items number h filed described = record {
  before = old.line.items ∷ h.before;
  number_is = number ∙ ap (λ n. min (n + 1) (2 ^ 64 - 1)) h.number_is ∙ one_more (length h.before);
  text_is = (λ i. h.text_is i ++ end i ∷ []) ∙ append_assoc (text_of h.before) old.line.items (10 ∷ []) ∙ sym (append-nil (text_of (old.line.items ∷ h.before)))
      ∙ ap (λ x. text_of (old.line.items ∷ h.before) ++ x) (sym items);
  line = ap is_line items;
  lines = λ i. h.line i && h.lines i;
  filed = filed;
  described = described;
}

-- ---- where a list stops

whole : (f : ListFault) (line rest ns : List ℕ) → EndsLine rest → BlamesLine f line ns → Blames f line rest ns
whole BadList line rest ns e b = (e, b)
whole File line rest ns e b = (e, b)
whole Io line rest ns e b = absurd b
whole Turns line rest ns e b = absurd b
whole (Ad fault) line rest ns e b = (e, b)
whole OutOfMemory line rest ns e b = tt

-- behind what was read
pub stops : {A : Type 0} (l : Loading A) (f : ListFault) (text rest : List ℕ) → (h : IsRead l text) → Blames f l.line.items rest (numbers_of h.before) → StopsAt f (text ++ rest)
stops l f text rest h blamed = record {
  before = h.before;
  part = l.line.items;
  rest = rest;
  text_is = ap (λ t. t ++ rest) h.text_is ∙ append_assoc (text_of h.before) l.line.items rest;
  line = h.line;
  lines = h.lines;
  good = h.filed.good;
  apart = h.filed.apart;
  blamed = blamed;
}

-- the loading stands in the line that was read
pub stands : {A : Type 0} (l m : Loading A) (text rest : List ℕ) → m.line ≡ l.line → m.number ≡ l.number → IsRead l text → StandsIn m (text ++ rest)
stands l m text rest line number h = record {
  before = h.before;
  rest = rest;
  text_is = ap (λ t. t ++ rest) h.text_is ∙ append_assoc (text_of h.before) l.line.items rest ∙ ap (λ v. text_of h.before ++ (v.items ++ rest)) (sym line);
  line = ap (λ v. is_line v.items) line ∙ h.line;
  lines = h.lines;
  number_is = number ∙ h.number_is;
}

-- also at the end of the list
pub stands_end : {A : Type 0} (l m : Loading A) (text : List ℕ) → m.line ≡ l.line → m.number ≡ l.number → IsRead l text → StandsIn m text
stands_end l m text line number h = subst (StandsIn m) (append-nil text) (stands l m text [] line number h)

-- at a line's end
pub stops_line : {A : Type 0} (l : Loading A) (f : ListFault) (text more : List ℕ) (b : ℕ) → b ≡ 10 → (h : IsRead l text) → BlamesLine f l.line.items (numbers_of h.before)
    → StopsAt f (text ++ b ∷ more)
stops_line l f text more b end h blamed = stops l f text (b ∷ more) h (whole f l.line.items (b ∷ more) (numbers_of h.before) end blamed)

-- at the end of the list
pub stops_end : {A : Type 0} (l : Loading A) (f : ListFault) (text : List ℕ) → (h : IsRead l text) → BlamesLine f l.line.items (numbers_of h.before) → StopsAt f text
stops_end l f text h blamed =
    subst (StopsAt f) (append-nil text) (stops l f text [] h (whole f l.line.items [] (numbers_of h.before) tt blamed))

-- ---- the library

-- a blank line files nothing
pub blank_filed : {A : Type 0} (library : AdLibrary A) (line : List ℕ) (ls : List (List ℕ)) → is_blank line ≡ true → IsFiled library ls → IsFiled library (line ∷ ls)
blank_filed library line ls blank h =
    let same : numbers_of (line ∷ ls) ≡ numbers_of ls = ap (λ b. cond b (numbers_of ls) (with_number (entry_of line) (numbers_of ls))) blank in
    record {
      good = λ i. (blank i || is_some (entry_of line)) && h.good i;
      apart = ap are_apart same ∙ h.apart;
      numbers = λ id. h.numbers id ∙ ap (has_number id) (sym same);
      adverts = h.adverts;
      size = h.size ∙ ap length (sym same);
    }

is_there : {X : Type 0} (b : Bool) (x : X) (o : Option X) → is_some (if b then Some x else o) ≡ (b || is_some o)
is_there true x o = refl
is_there false x o = refl

either : (b : Bool) (x y : Option Advertisement) → IfSome x IsAdvert → IfSome y IsAdvert → IfSome (if b then x else y) IsAdvert
either true x y p q = p
either false x y p q = q

-- an entry files its advertisement
pub entry_filed : {A : Type 0} (old new : AdLibrary A) (line : List ℕ) (ls : List (List ℕ)) (e : ℕ × List ℕ) (known : Option (List ℕ)) → is_blank line ≡ false
    → entry_of line ≡ Some e → IsFiled old ls → FilesOne known old new e.0 → IsFiled new (line ∷ ls)
entry_filed old new line ls e known blank entry h a =
    let ns = numbers_of ls in
    let same : numbers_of (line ∷ ls) ≡ e.0 ∷ ns = ap (λ b. cond b ns (with_number (entry_of line) ns)) blank ∙ ap (λ o. with_number o ns) entry in
    let fresh : has_number e.0 ns ≡ false = sym (h.numbers e.0) ∙ ap is_some a.none in
    record {
      good = λ i. (blank i || is_some (entry i)) && h.good i;
      apart = ap are_apart same ∙ (λ i. not (fresh i) && h.apart i);
      numbers = λ id. ap is_some (a.filed_is id) ∙ is_there (id == e.0) a.advert (held old id) ∙ ap (λ b. (id == e.0) || b) (h.numbers id) ∙ ap (has_number id) (sym same);
      adverts = λ id. subst (λ o. IfSome o IsAdvert) (sym (a.filed_is id)) (either (id == e.0) (Some a.advert) (held old id) (a.packets, a.advert_is) (h.adverts id));
      size = omega (arith, a.size, h.size, ap length same);
    }

-- a line that is neither blank nor an entry
pub bad_line : (line : List ℕ) → is_blank line ≡ false → entry_of line ≡ None → is_list_line line ≡ false
bad_line line blank none = λ i. blank i || is_some (none i)

-- what is told of an entry's stream, told of the line
pub stream_line : {A : Type 0} (library : AdLibrary A) (f : ListFault) (line : List ℕ) (ls : List (List ℕ)) (e : ℕ × List ℕ) → entry_of line ≡ Some e
    → IsFiled library ls → BlamesStream f (is_some (held library e.0)) (index_map_len library.adverts) → BlamesLine f line (numbers_of ls)
stream_line library BadList line ls e entry h b = absurd b
stream_line library File line ls e entry h b = ap is_some entry
stream_line library Io line ls e entry h b = absurd b
stream_line library Turns line ls e entry h b = absurd b
stream_line library (Ad fault) line ls e entry h b =
    (e, entry, subst (λ t. BlamesAd fault t (length (numbers_of ls))) (h.numbers e.0) (subst (λ n. BlamesAd fault (is_some (held library e.0)) n) h.size b))
stream_line library OutOfMemory line ls e entry h b = ap is_some entry

-- nothing was read
pub nothing_read : {A : Type 0} (l : Loading A) → ((id : ℕ) → held l.library id ≡ None) → index_map_len l.library.adverts ≡ 0 → l.line.items ≡ []
    → l.number ≡ 1 → l.streams.items ≡ [] → IsRead l []
nothing_read l empty size items number none = record {
  before = [];
  number_is = number;
  text_is = sym items;
  line = ap is_line items;
  lines = refl;
  filed = record {
    good = refl;
    apart = refl;
    numbers = λ id. ap is_some (empty id);
    adverts = λ id. subst (λ o. IfSome o IsAdvert) (sym (empty id)) tt;
    size = size;
  };
  described = ap length none ∙ sym size;
}

-- ---- bytes of the list, one after another

pub takes_on : (text done part rest behind : List ℕ) (b : ℕ) → part ≡ done ++ rest → rest ≡ b ∷ behind → part ≡ (done ++ b ∷ []) ++ behind
takes_on text done part rest behind b e first = e ∙ ap (λ r. done ++ r) first ∙ sym (append_assoc done (b ∷ []) behind)

pub said_later : (P : List ℕ → Type 0) (text done part rest behind more : List ℕ) (b : ℕ) → part ≡ done ++ rest → rest ≡ b ∷ behind
    → P ((text ++ done) ++ b ∷ (behind ++ more)) → P (text ++ (part ++ more))
said_later P text done part rest behind more b e first h =
    subst P (append_assoc text done (b ∷ (behind ++ more)) ∙ ap (λ t. text ++ t) (sym (append_assoc done (b ∷ behind) more))
    ∙ ap (λ p. text ++ (p ++ more)) (sym (e ∙ ap (λ r. done ++ r) first))) h

-- ---- reads of the list

-- what is said of all that was to come is said of what was read last and of what is left
pub said_within : (P : List ℕ → Type 0) (a b c : Option (List ℕ)) (bs part : List ℕ) → Consumes a b bs → Consumes b c part → ((more : List ℕ) → P (bs ++ (part ++ more)))
    → IfSome a P
said_within P None b c bs part p q h = tt
said_within P (Some x) None c bs part p q h = absurd p
said_within P (Some x) (Some y) None bs part p q h = absurd q
said_within P (Some x) (Some y) (Some z) bs part p q h = subst P (sym (p ∙ ap (λ l. bs ++ l) q)) (h z)

-- of all that was read, at the end
pub said_all : (P : List ℕ → Type 0) (a : Option (List ℕ)) (bs : List ℕ) → IfSome a (λ all. all ≡ bs) → P bs → IfSome a P
said_all P None bs e h = tt
said_all P (Some x) bs e h = subst P (sym e) h

-- of what was read, and of what is left
pub said_behind : (P : List ℕ → Type 0) (a b : Option (List ℕ)) (bs : List ℕ) → Consumes a b bs → ((more : List ℕ) → P (bs ++ more)) → IfSome a P
said_behind P None b bs p h = tt
said_behind P (Some x) None bs p h = absurd p
said_behind P (Some x) (Some y) bs p h = subst P (sym p) (h y)

-- ---- a device whose reads take too long

-- what is said of a reader of packets over a device is said of the device
pub stalls_over : {X D : Type 0} (counts : D → Tally) (remaining : D → Option (List ℕ)) (leads : X → X → Type 0) (device_of : X → D) (given : X → ℕ) (first now : X) (old new : D) → device_of first ≡ old
    → device_of now ≡ new → given first ≡ 0
    → Stalled leads (λ x. counts (device_of x)) (λ x y. FallsShort 188 (remaining (device_of x)) (remaining (device_of y))) first now ⊎ Exhausted (λ x. remaining (device_of x)) given first
    → StallsOver counts remaining old new
stalls_over counts remaining leads device_of given first now old new e f z (inl h) =
    let (at, reads, well, turns, short) = h in
    inl (
      device_of at,
      subst (λ d. WentWell (counts d) (counts (device_of at))) e well,
      subst (λ d. TookTurns (2 ^ 20) (counts (device_of at)) (counts d)) f turns,
      subst (λ d. FallsShort 188 (remaining (device_of at)) (remaining d)) f short,
    )
stalls_over counts remaining leads device_of given first now old new e f z (inr h) =
    let (rest, ps, read, count) = h in
    inr (rest, ps, subst (λ d. HasRead (remaining d) rest ps) e read, omega (arith, count, z))

-- so of where it stops
pub stops_over : {X D : Type 0} (counts : D → Tally) (remaining : D → Option (List ℕ)) (leads : X → X → Type 0) (device_of : X → D) (given : X → ℕ) (broken : X → Bool) (short : X → X → Type 0)
    (fault : AdFault) (first now : X) (old new : D) → device_of first ≡ old → device_of now ≡ new → given first ≡ 0
    → StoppedAt leads (λ x. remaining (device_of x)) given (λ x. counts (device_of x)) (λ x. false) broken short fault first now → StopsOver counts remaining fault old new
stops_over counts remaining leads device_of given broken short fault first now old new e f z h =
    let n : given h.at ≡ length h.packets = (let c = h.before.read.count in omega (arith, c, z)) in
    record {
      packets = h.packets;
      at = device_of h.at;
      read = subst (λ d. HasRead (remaining d) (remaining (device_of h.at)) h.packets) e h.before.read.read;
      clean = h.before.clean;
      last = subst (λ d. LastOver counts remaining fault h.packets (device_of h.at) d) f (by_last n h.last);
    }
  where
    by_last : given h.at ≡ length h.packets → LastReadCameTo (λ x. remaining (device_of x)) given (λ x. counts (device_of x)) (λ x. false) broken short fault h.packets h.at now
        → LastOver counts remaining fault h.packets (device_of h.at) (device_of now)
    by_last n (inl k) = let (g, is, told) = k in inl (g, is, told.refused, subst (λ m. SourceBlamed g m (counts (device_of h.at)) (counts (device_of now))) n told.blamed)
    by_last n (inr (inl k)) = let (p, gave, of) = k in inr (inl (p, gave.packet, gave.moved.1, of))
    by_last n (inr (inr k)) = inr (inr (k.0.end.0, k.0.end.1, k.0.moved, k.1))
