-- The unit of a picture, packet by packet.
use Rattle.std.proofs.Common.{◌≡◌, ℕ, ◌≤◌, Bool, true, false, not, ◌&&◌, ◌||◌, cond, List, [], ◌∷◌, ◌++◌, length, take, refl, ap, sym, ◌∙◌, subst, Result, Ok, Err, OnOk}
use Rattle.std.specs.Prelude.{Option, None, Some, is_some, is_ok}
use Rattle.std.proofs.lemmas.List.{append-nil, append_assoc, take-append-le}
use Rattle.ts_packet.specs.Fields.{payload, bytes, or_none, pid_of, unit_start}
use Rattle.ts_packet.specs.Duplicates.{original}
use Rattle.unit_stream.specs.Times.{begins}
use Rattle.random_access.specs.Numbering.{continues}
use Rattle.break_choices.specs.declared.pictures.Picture.{Picture}
use Rattle.break_timelines.specs.declared.pictures.BegunPicture.{BegunPicture}
use Rattle.break_timelines.specs.declared.pictures.OpenUnit.{OpenUnit}
use Rattle.break_timelines.specs.Timelines.{begun_at, rest_of, unit_of, looked_at, judged, judged_by, pictures_behind, pictures_of}
use Rattle.break_timelines.specs.Pictures.{FollowsUnit, OfUnit, with_open, Settle}

-- ---- the bytes that are looked at

-- where all that are looked at are there, more change nothing
pub full : (unit bs more : List ℕ) → looked_at ≤ length unit → take looked_at (unit ++ more) ≡ take looked_at (unit ++ (bs ++ more))
full unit bs more long = take-append-le looked_at unit more long ∙ sym (take-append-le looked_at unit (bs ++ more) long)

pub longer : (unit bs after more : List ℕ) → after ≡ unit ++ bs → take looked_at (after ++ more) ≡ take looked_at (unit ++ (bs ++ more))
longer unit bs after more is = ap (λ xs. take looked_at (xs ++ more)) is ∙ ap (take looked_at) (append_assoc unit bs more)

pub extended : {T E : Type 0} (r : Result T E) (unit payload bs after : List ℕ) → payload ≡ bs → after ≡ cond (is_ok r) (unit ++ payload) unit
    → OnOk r ((more : List ℕ) → take looked_at (after ++ more) ≡ take looked_at (unit ++ (bs ++ more)))
extended (Ok x) unit payload bs after same is = λ more. longer unit bs after more (is ∙ ap (λ xs. unit ++ xs) same)
extended (Err e) unit payload bs after same is = tt

pub no_bytes : (p : List ℕ) → payload p ≡ None → bytes p ≡ []
unfolding bytes
no_bytes p is = ap or_none is

pub judged_as : (b : BegunPicture) (unit front : List ℕ) (r : Bool) → b.is_random_access ≡ true → front ≡ take looked_at unit → r ≡ continues b.coding front
    → record { time = b.time; packet = b.packet; is_entry = not r; is_clean = false } ≡ judged b unit
judged_as b unit front r random is shown =
    ap (λ (x : Bool). (let q : Picture = record { time = b.time; packet = b.packet; is_entry = x; is_clean = false } in q))
    (ap not (shown ∙ ap (continues b.coding) is) ∙ sym (ap (λ x. x && not (continues b.coding (take looked_at unit))) random))

-- it is judged by what is looked at
pub judged_alike : (b : BegunPicture) (xs ys : List ℕ) → take looked_at xs ≡ take looked_at ys → judged b xs ≡ judged b ys
judged_alike b xs ys is =
    ap (λ (zs : List ℕ). (let q : Picture = record { time = b.time; packet = b.packet; is_entry = b.is_random_access && not (continues b.coding zs); is_clean = false } in q)) is

-- no picture but a random access picture is an entry picture
pub judged_none : (b : BegunPicture) (xs ys : List ℕ) → b.is_random_access ≡ false → judged b xs ≡ judged b ys
judged_none b xs ys other =
    ap (λ (x : Bool). (let q : Picture = record { time = b.time; packet = b.packet; is_entry = x; is_clean = false } in q))
    (ap (λ x. x && not (continues b.coding (take looked_at xs))) other ∙ sym (ap (λ x. x && not (continues b.coding (take looked_at ys))) other))

-- ---- a packet more

module _ (program : ℕ) (p : List ℕ) (past : List (List ℕ)) where
  -- with which no picture begins
  pub behind_none : (after : List (List ℕ)) → None ≡ begun_at program p past → pictures_behind program (p ∷ past) after ≡ pictures_behind program past (p ∷ after)
  unfolding pictures_behind
  behind_none after none =
      ap (λ x. pictures_behind program past (p ∷ after) ++ judged_by x (unit_of program p past after)) (sym none)
      ∙ append-nil (pictures_behind program past (p ∷ after))

  -- with which this one begins
  pub behind_some : (after : List (List ℕ)) (b : BegunPicture) → Some b ≡ begun_at program p past
      → pictures_behind program (p ∷ past) after ≡ pictures_behind program past (p ∷ after) ++ judged b (unit_of program p past after) ∷ []
  unfolding pictures_behind
  behind_some after b some = ap (λ x. pictures_behind program past (p ∷ after) ++ judged_by x (unit_of program p past after)) (sym some)

  module _ (pid : ℕ) (since : List (List ℕ)) (after : List (List ℕ)) where
    abbrev rest : Bool → Bool → List ℕ
    rest ends brings = cond ends [] (cond brings (bytes p) [] ++ rest_of program pid (p ∷ since) (p ∷ past) after)

    rest_is : (o : Option BegunPicture) → o ≡ begun_at program p past
        → rest_of program pid since past (p ∷ after) ≡ rest (is_some o || begins pid p since) (original pid p since)
    unfolding rest_of
    rest_is o is = ap (λ x. rest (is_some x || begins pid p since) (original pid p since)) (sym is)

    pub ends_at_picture : (b : BegunPicture) → Some b ≡ begun_at program p past → rest_of program pid since past (p ∷ after) ≡ []
    ends_at_picture b some = rest_is (Some b) some

    pub ends_at_unit : None ≡ begun_at program p past → begins pid p since ≡ true → rest_of program pid since past (p ∷ after) ≡ []
    ends_at_unit none next = rest_is None none ∙ ap (λ x. rest x (original pid p since)) next

    pub passes : None ≡ begun_at program p past → original pid p since ≡ false
        → rest_of program pid since past (p ∷ after) ≡ rest_of program pid (p ∷ since) (p ∷ past) after
    passes none other = rest_is None none ∙ ap (λ x. rest (x && unit_start p) x) other

    pub goes_on : None ≡ begun_at program p past → original pid p since ≡ true → unit_start p ≡ false
        → rest_of program pid since past (p ∷ after) ≡ bytes p ++ rest_of program pid (p ∷ since) (p ∷ past) after
    goes_on none brings more = rest_is None none ∙ ap (λ x. rest (x && unit_start p) x) brings ∙ ap (λ x. rest x true) more

  -- ---- what the pictures that are read stand for

  module _ (ps : List Picture) where
    pub none_open : (unit after : List ℕ) → None ≡ begun_at program p past → Settle ps None unit program past → Settle ps None after program (p ∷ past)
    none_open unit after none s = λ behind. behind_none behind none ∙ s (p ∷ behind)

    -- the unit that is open has nothing in the packet
    pub other : (o next : OpenUnit) (unit : List ℕ) → None ≡ begun_at program p past → next.picture ≡ o.picture
        → OfUnit o (λ pid since. FollowsUnit next pid (p ∷ since)) → OfUnit o (λ pid since. original pid p since ≡ false)
        → Settle ps (Some o) unit program past → Settle ps (Some next) unit program (p ∷ past)
    other o next unit none same follows not_its (pid, since, f, is) = (
      pid,
      p ∷ since,
      follows pid since f,
      λ after. behind_none after none ∙ is (p ∷ after)
          ∙ ap (λ bs. ps ++ judged o.picture (unit ++ bs) ∷ []) (passes pid since after none (not_its pid since f))
          ∙ ap (λ b. ps ++ judged b (unit ++ rest_of program pid (p ∷ since) (p ∷ past) after) ∷ []) (sym same),
    )

    -- it goes on with the packet
    pub longer_by : (o next : OpenUnit) (unit held : List ℕ) → None ≡ begun_at program p past → next.picture ≡ o.picture
        → OfUnit o (λ pid since. FollowsUnit next pid (p ∷ since)) → OfUnit o (λ pid since. original pid p since ≡ true) → unit_start p ≡ false
        → ((more : List ℕ) → take looked_at (held ++ more) ≡ take looked_at (unit ++ (bytes p ++ more)))
        → Settle ps (Some o) unit program past → Settle ps (Some next) held program (p ∷ past)
    longer_by o next unit held none same follows its more holds (pid, since, f, is) = (
      pid,
      p ∷ since,
      follows pid since f,
      λ after. behind_none after none ∙ is (p ∷ after)
          ∙ ap (λ bs. ps ++ judged o.picture (unit ++ bs) ∷ []) (goes_on pid since after none (its pid since f) more)
          ∙ ap (λ q. ps ++ q ∷ []) (judged_alike o.picture (unit ++ (bytes p ++ rest_of program pid (p ∷ since) (p ∷ past) after))
          (held ++ rest_of program pid (p ∷ since) (p ∷ past) after) (sym (holds (rest_of program pid (p ∷ since) (p ∷ past) after))))
          ∙ ap (λ b. ps ++ judged b (held ++ rest_of program pid (p ∷ since) (p ∷ past) after) ∷ []) (sym same),
    )

    -- it ends before the packet, which begins another unit
    pub ended : (o : OpenUnit) (unit : List ℕ) → None ≡ begun_at program p past → OfUnit o (λ pid since. begins pid p since ≡ true)
        → Settle ps (Some o) unit program past → ((after : List (List ℕ)) → pictures_behind program (p ∷ past) after ≡ ps ++ judged o.picture unit ∷ [])
    ended o unit none next (pid, since, f, is) = λ after.
        behind_none after none ∙ is (p ∷ after)
        ∙ ap (λ bs. ps ++ judged o.picture (unit ++ bs) ∷ []) (ends_at_unit pid since after none (next pid since f))
        ∙ ap (λ bs. ps ++ judged o.picture bs ∷ []) (append-nil unit)

    -- it ends before the packet, with which a picture begins
    pub ended_before : (o : Option OpenUnit) (unit : List ℕ) (b : BegunPicture) → Some b ≡ begun_at program p past
        → Settle ps o unit program past → ((after : List (List ℕ)) → pictures_behind program past (p ∷ after) ≡ with_open ps o unit)
    ended_before None unit b some s = λ after. s (p ∷ after)
    ended_before (Some o) unit b some (pid, since, f, is) = λ after.
        is (p ∷ after)
        ∙ ap (λ bs. ps ++ judged o.picture (unit ++ bs) ∷ []) (ends_at_picture pid since after b some)
        ∙ ap (λ bs. ps ++ judged o.picture bs ∷ []) (append-nil unit)

pub ended_last : (program : ℕ) (past : List (List ℕ)) (ps : List Picture) (o : Option OpenUnit) (unit : List ℕ) → Settle ps o unit program past
    → with_open ps o unit ≡ pictures_of program past
unfolding rest_of
ended_last program past ps None unit s = sym (s [])
ended_last program past ps (Some o) unit (pid, since, f, is) = sym (is [] ∙ ap (λ bs. ps ++ judged o.picture bs ∷ []) (append-nil unit))

-- where no unit is open
pub closed : (program : ℕ) (past : List (List ℕ)) (ps : List Picture) (o : Option OpenUnit) (unit : List ℕ) → o ≡ None
    → ((after : List (List ℕ)) → pictures_behind program past after ≡ ps) → Settle ps o unit program past
closed program past ps o unit none is = subst (λ x. Settle ps x unit program past) (sym none) is

pub both_ok : {T E P Q R : Type 0} (r : Result T E) → (P → Q → R) → OnOk r P → OnOk r Q → OnOk r R
both_ok (Ok x) f p q = f p q
both_ok (Err e) f p q = tt
