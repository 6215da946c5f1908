-- Some events' cues have gone out, one event after another.
use Rattle.std.proofs.Common.{◌≡◌, ℕ, ◌+◌, ◌<◌, ◌≤◌, ◌^◌, Bool, true, false, not, ◌&&◌, cond, List, [], ◌∷◌, ◌++◌, length, refl, ap, sym, ◌∙◌, subst, arith, append_assoc, length-append}
use Rattle.std.specs.Prelude.{ℤ, ◌≤ℤ◌, map, All, Option, None, Some, option_map, slice_index_or, slice_set}
use Rattle.std.specs.List.{flat_map}
use Rattle.std.proofs.Math.Seq.{get_or-append_seam, set-append_seam}
use Rattle.std.proofs.lemmas.Int.{ints}
use Rattle.std.proofs.lemmas.List.{map-append, length-map, append-nil}
use Rattle.std.proofs.lemmas.List.Elements.{All-nil, All-cons, All-head, All-tail}
use Rattle.pes_time.specs.Line.{ring_of}
use Rattle.ts_packet.specs.Runs.{onto}
use Rattle.scte35_codec.specs.declared.cue_out.CueOut.{CueOut}
use Rattle.event_table.specs.declared.event.Event.{Event}
use Rattle.event_table.specs.Standing.{on_ring, IsWithin}
use Rattle.event_table.specs.Tables.{StandsFor, high_time_of, events_of, values_of}
use Rattle.event_table.proofs.ListLemmas.{map-map}
use Rattle.injector.specs.declared.choice.Choice.{Choice}
use Rattle.injector.specs.declared.notes.Notes.{Notes}
use Rattle.injector.specs.declared.requests.Requests.{Requests}
use Rattle.injector.specs.Turns.{Turn, greatest_in}
use Rattle.injector.specs.Requests.{RequestsStandFor}
use Rattle.injector.specs.Senders.{Sender, is_none, chosen, cues_by, tell, told_now, events_in, standing_senders, packed}
use Rattle.injector.specs.Noting.{notes_of, told_by_cue, ring_chosen, IsShown, IsKept, LastIn, AreNoted, Sending, NotesStandFor, NotesTold}
use Rattle.unit_stream.specs.Clocks.{Rises}
use Rattle.injector.proofs.CueLemmas.{ring-chosen, one-of_three}
use Rattle.injector.proofs.SenderLemmas.{standing-events}

-- an element behind others
seam-at : {X : Type 0} (front : List X) (x : X) (bs all : List X) (place : ℕ) (y : X) → all ≡ front ++ x ∷ bs → place ≡ length front → y ≡ slice_index_or all place y → y ≡ x
seam-at front x bs all place y same at is =
    is ∙ ap (λ l. slice_index_or l place y) same ∙ ap (λ k. slice_index_or (front ++ x ∷ bs) k y) at ∙ get_or-append_seam front x bs y

pub seam-all : {X : Type 0} (P : X → Type 0) (front : List X) (x : X) (bs : List X) → All P (front ++ x ∷ bs) → P x
seam-all P [] x bs all = All-head P x bs all
seam-all P (a ∷ front) x bs all = seam-all P front x bs (All-tail P a (front ++ x ∷ bs) all)

seam-map : {X Y : Type 0} (f : X → Y) (front : List X) (x : X) (bs : List X) → map f (front ++ x ∷ bs) ≡ map f front ++ f x ∷ map f bs
seam-map f front x bs = map-append f front (x ∷ bs)

moved-seam : {X : Type 0} (front : List X) (x : X) (bs : List X) → (front ++ x ∷ []) ++ bs ≡ front ++ x ∷ bs
moved-seam front x bs = append_assoc front (x ∷ []) bs

module _ (r : Requests) (latest after : Option ℤ) (done : List Sender) (x : Sender) (left : List Sender) (sending : Sending r latest after done (x ∷ left)) where
  event_list : events_of r.table ≡ map (λ (y : Sender). on_ring y.event) done ++ on_ring x.event ∷ map (λ (y : Sender). on_ring y.event) left
  event_list = sending.table.events ∙ map-map (λ (y : Sender). y.event) on_ring (done ++ x ∷ left) ∙ seam-map (λ (y : Sender). on_ring y.event) done x left

  value_list : values_of r.table ≡ map notes_of (map (tell latest after) done) ++ notes_of x ∷ map notes_of left
  value_list = sending.notes ∙ seam-map notes_of (map (tell latest after) done) x left

  pub at_within : IsWithin latest x.event
  at_within = within (done ++ x ∷ left) sending.table.within (λ P all. seam-all P done x left all)
    where
      within : (xs : List Sender) → All (IsWithin latest) (events_in xs) → ((P : Sender → Type 0) → All P xs → P x) → IsWithin latest x.event
      within xs all pick = pick (λ y. IsWithin latest y.event) (unmapped xs all)
        where
          unmapped : (ys : List Sender) → All (IsWithin latest) (events_in ys) → All (λ (y : Sender). IsWithin latest y.event) ys
          unmapped [] all = All-nil (λ (y : Sender). IsWithin latest y.event)
          unmapped (y ∷ ys) all = All-cons (λ (z : Sender). IsWithin latest z.event) y ys (All-head (IsWithin latest) y.event (events_in ys) all) (unmapped ys (All-tail (IsWithin latest) y.event (events_in ys) all))

  pub at_kept : IsKept latest x
  at_kept = seam-all (IsKept latest) done x left sending.kept

  pub sending-shown : (place : ℕ) (e : Event) (n : Notes) → place ≡ length done → e ≡ slice_index_or (events_of r.table) place e → n ≡ slice_index_or (values_of r.table) place n → IsShown e n x
  sending-shown place e n at e_is n_is =
      record {
        event_is = seam-at (map (λ (y : Sender). on_ring y.event) done) (on_ring x.event) (map (λ (y : Sender). on_ring y.event) left) (events_of r.table) place e event_list (at ∙ sym (length-map done (λ (y : Sender). on_ring y.event))) e_is;
        notes_are = seam-at (map notes_of (map (tell latest after) done)) (notes_of x) (map notes_of left) (values_of r.table) place n value_list (at ∙ sym (length-map (map (tell latest after) done) notes_of ∙ length-map done (tell latest after))) n_is;
        avails = at_kept.avails;
        asked = most latest at_within;
      }
    where
      most : (l : Option ℤ) → IsWithin l x.event → x.event.asked ≤ 2 ^ 30
      most None w = absurd w
      most (Some h) w = w.most

  pub sending-choice : (choice : Choice) (e : Event) (n : Notes) (h l : Option ℕ) → IsShown e n x → Rises latest after → h ≡ high_time_of r.table → l ≡ option_map ring_of after
      → choice ≡ ring_chosen e n.told n.last h l → choice ≡ chosen x latest after
  sending-choice choice e n h l shown rises h_is l_is is =
      is
      ∙ ap (λ k. ring_chosen k n.told n.last h l) shown.event_is
      ∙ ap (λ k. ring_chosen (on_ring x.event) k.told k.last h l) shown.notes_are
      ∙ ap (λ k. ring_chosen (on_ring x.event) (option_map told_by_cue x.told) (option_map ring_of x.last) k l) (h_is ∙ sending.table.high)
      ∙ ap (λ k. ring_chosen (on_ring x.event) (option_map told_by_cue x.told) (option_map ring_of x.last) (option_map ring_of latest) k) l_is
      ∙ ring-chosen x latest after at_within at_kept rises

  tells : (new : Requests) (y : Sender) → tell latest after x ≡ y → StandsFor new.table latest (events_in (done ++ x ∷ left))
      → values_of new.table ≡ map notes_of (map (tell latest after) done) ++ notes_of y ∷ map notes_of left → Sending new latest after (done ++ x ∷ []) left
  tells new y told table values =
      record {
        table = subst (λ xs. StandsFor new.table latest (events_in xs)) (sym (moved-seam done x left)) table;
        notes = values ∙ sym (seam-map notes_of (map (tell latest after) done) y left) ∙ ap (map notes_of) (sym (moved-seam (map (tell latest after) done) y left)
            ∙ ap (λ z. (map (tell latest after) done ++ z ∷ []) ++ left) (sym told) ∙ ap (λ zs. zs ++ left) (sym (map-append (tell latest after) done (x ∷ []))));
        kept = subst (All (IsKept latest)) (sym (moved-seam done x left)) sending.kept;
      }

  pub sending-skip : is_none (chosen x latest after) ≡ true → Sending r latest after (done ++ x ∷ []) left
  sending-skip none = tells r x (ap (λ b. cond b x (told_now after x)) none) sending.table value_list

  pub sending-told : (new : Requests) (place : ℕ) (n : Notes) → is_none (chosen x latest after) ≡ false → place ≡ length done → n ≡ notes_of (told_now after x)
      → StandsFor new.table latest (events_in (done ++ x ∷ left)) → values_of new.table ≡ slice_set (values_of r.table) place n → Sending new latest after (done ++ x ∷ []) left
  sending-told new place n some at n_is table values =
      let front = map notes_of (map (tell latest after) done) in
      let long : place ≡ length front = at ∙ sym (length-map (map (tell latest after) done) notes_of ∙ length-map done (tell latest after)) in
      tells new (told_now after x) (ap (λ b. cond b x (told_now after x)) some) table
      (values ∙ ap (λ vs. slice_set vs place n) value_list ∙ ap (λ k. slice_set (front ++ notes_of x ∷ map notes_of left) k n) long ∙ set-append_seam front (notes_of x) (map notes_of left) n
      ∙ ap (λ v. front ++ v ∷ map notes_of left) n_is)

pub none-cues : (x : Sender) (c : Choice) → is_none c ≡ true → cues_by x c ≡ []
none-cues x c none = by c.start c.end c.cancel none
  where
    by : (s e k : Bool) → (not s && (not e && not k)) ≡ true → cues_by x (record { start = s; end = e; cancel = k }) ≡ []
    by true e k is = absurd (let no : false ≡ true = is in cc)
    by false true k is = absurd (let no : false ≡ true = is in cc)
    by false false true is = absurd (let no : false ≡ true = is in cc)
    by false false false is = refl

-- how many are left
items-count : (r : Requests) (latest after : Option ℤ) (done left : List Sender) → Sending r latest after done left → length r.table.entries.items ≡ length done + length left
items-count r latest after done left sending =
    sym (length-map r.table.entries.items (λ entry. entry.event)) ∙ ap length sending.table.events ∙ length-map (events_in (done ++ left)) on_ring ∙ length-map (done ++ left) (λ (y : Sender). y.event) ∙ length-append done left

pub next-left : (r : Requests) (latest after : Option ℤ) (done left : List Sender) (place : ℕ) → Sending r latest after done left → place ≡ length done → place < length r.table.entries.items
    → (x : Sender) × (rest : List Sender) × (left ≡ x ∷ rest)
next-left r latest after done [] place sending at below = absurd (let n = items-count r latest after done [] sending in omega arith)
next-left r latest after done (x ∷ rest) place sending at below = (x, rest, refl)

pub none-left : (r : Requests) (latest after : Option ℤ) (done left : List Sender) (place : ℕ) → Sending r latest after done left → place ≡ length done → length r.table.entries.items ≤ place → left ≡ []
none-left r latest after done [] place sending at over = refl
none-left r latest after done (x ∷ rest) place sending at over = absurd (let n = items-count r latest after done (x ∷ rest) sending in omega arith)

-- the begin, where nothing has gone out, and the end
pub sending-first : (r : Requests) (index : ℕ) (past : List Turn) (after : Option ℤ) → RequestsStandFor r index past → NotesStandFor r index past → Sending r (greatest_in past) after [] (standing_senders index past)
sending-first r index past after stands noted =
    record { table = subst (StandsFor r.table (greatest_in past)) (sym (standing-events index past)) stands.table; notes = noted.notes; kept = noted.kept }

kept-told : (latest after : Option ℤ) → Rises latest after → (x : Sender) → IsWithin latest x.event → IsKept latest x → IsKept after (tell latest after x)
kept-told None after rises x within kept = absurd within
kept-told (Some h) None rises x within kept = absurd rises
kept-told (Some h) (Some l) rises x within kept = by (is_none (chosen x (Some h) (Some l)))
  where
    above : h ≤ℤ l
    above = rises.0

    stays : (last : Option ℤ) → LastIn (Some h) x.event.start last → LastIn (Some l) x.event.start last
    stays None inside = tt
    stays (Some t) inside = let a = inside.0 in let b = above in (omega (arith, ints), inside.1)

    by : (b : Bool) → IsKept (Some l) (cond b x (told_now (Some l) x))
    by true = record { avails = kept.avails; last = stays x.last kept.last }
    by false = let s = within.start in let b = above in record { avails = kept.avails; last = (omega (arith, ints), omega (arith, ints)) }

pub all-kept : (latest after : Option ℤ) → Rises latest after → (xs : List Sender) → All (IsWithin latest) (events_in xs) → All (IsKept latest) xs → All (IsKept after) (map (tell latest after) xs)
all-kept latest after rises [] within kept = All-nil (IsKept after)
all-kept latest after rises (x ∷ xs) within kept =
    All-cons (IsKept after) (tell latest after x) (map (tell latest after) xs)
    (kept-told latest after rises x (All-head (IsWithin latest) x.event (events_in xs) within) (All-head (IsKept latest) x xs kept))
    (all-kept latest after rises xs (All-tail (IsWithin latest) x.event (events_in xs) within) (All-tail (IsKept latest) x xs kept))

pub sending-last : (r : Requests) (index : ℕ) (past : List Turn) (after : Option ℤ) (done : List Sender) → Rises (greatest_in past) after → standing_senders index past ≡ done → Sending r (greatest_in past) after done [] → NotesTold r index past after
sending-last r index past after done rises same sending =
    subst (λ xs. AreNoted r after (map (tell (greatest_in past) after) xs)) (sym same)
    (record {
      notes = sending.notes ∙ ap (map notes_of) (append-nil (map (tell (greatest_in past) after) done));
      kept = all-kept (greatest_in past) after rises done (subst (λ xs. All (IsWithin (greatest_in past)) (events_in xs)) (append-nil done) sending.table.within) (subst (All (IsKept (greatest_in past))) (append-nil done) sending.kept);
    })

-- one event's cues more
pub flat-push : (f : Sender → List CueOut) (done : List Sender) (x : Sender) → flat_map f (done ++ x ∷ []) ≡ flat_map f done ++ f x
flat-push f [] x = append-nil (f x)
flat-push f (y ∷ done) x = ap (λ l. f y ++ l) (flat-push f done x) ∙ sym (append_assoc (f y) (flat_map f done) (f x))

pub flat-seam : (f : Sender → List CueOut) (done : List Sender) (x : Sender) (rest : List Sender) → flat_map f (done ++ x ∷ rest) ≡ (flat_map f done ++ f x) ++ flat_map f rest
flat-seam f [] x rest = refl
flat-seam f (y ∷ done) x rest =
    ap (λ l. f y ++ l) (flat-seam f done x rest) ∙ sym (append_assoc (f y) (flat_map f done ++ f x) (flat_map f rest)) ∙ ap (λ l. l ++ flat_map f rest) (sym (append_assoc (f y) (flat_map f done) (f x)))

pub packed-push : (f : Sender → List CueOut) (pid : ℕ) (out : List (List ℕ)) (done : List Sender) (x : Sender) → pid < 8192
    → packed pid out (flat_map f (done ++ x ∷ [])) ≡ packed pid out (flat_map f done) ++ packed pid (onto out (packed pid out (flat_map f done))) (f x)
packed-push f pid out done x pb = ap (packed pid out) (flat-push f done x) ∙ one-of_three pid out (flat_map f done) (f x) pb

pub packed-seam : (f : Sender → List CueOut) (pid : ℕ) (out : List (List ℕ)) (done : List Sender) (x : Sender) (rest : List Sender) → pid < 8192
    → packed pid out (flat_map f (done ++ x ∷ rest)) ≡ packed pid out (flat_map f done) ++ (packed pid (onto out (packed pid out (flat_map f done))) (f x)
    ++ packed pid (onto out (packed pid out (flat_map f done ++ f x))) (flat_map f rest))
packed-seam f pid out done x rest pb =
    ap (packed pid out) (flat-seam f done x rest) ∙ one-of_three pid out (flat_map f done ++ f x) (flat_map f rest) pb
    ∙ ap (λ l. l ++ packed pid (onto out (packed pid out (flat_map f done ++ f x))) (flat_map f rest)) (one-of_three pid out (flat_map f done) (f x) pb)
    ∙ append_assoc (packed pid out (flat_map f done)) (packed pid (onto out (packed pid out (flat_map f done))) (f x)) (packed pid (onto out (packed pid out (flat_map f done ++ f x))) (flat_map f rest))
