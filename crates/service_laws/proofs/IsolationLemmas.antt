-- Each service has what a chain of its own would send, and all other packets are the network's.
use Rattle.std.proofs.Common.{◌≡◌, ℕ, List, [], ◌∷◌, ◌++◌, Bool, true, false, not, ◌||◌, refl, sym, ap, ◌∙◌, subst, Option, None, Some, if◌then◌else◌, append_assoc, reverse}
use Rattle.std.specs.Prelude.{filter}
use Rattle.std.specs.List.{AllByRecursion, list_any}
use Rattle.std.proofs.lemmas.Bool.{true≢false, or_parts, or_from, or_left, or_right, not_from_true}
use Rattle.std.proofs.lemmas.List.{append-nil, reverse-reverse}
use Rattle.std.proofs.lemmas.List.Elements.{filter-append}
use Rattle.ts_packet.specs.Fields.{on, on_one, is_among}
use Rattle.ts_packet.proofs.Cases.{by_test}
use Rattle.ts_packet.proofs.RunLemmas.{filter-reverse, reverse-cons, reverse-onto}
use Rattle.psi_section.proofs.GivenLemmas.{each-append}
use Rattle.psi_tables.specs.declared.config.Config.{Config}
use Rattle.program_follower.specs.declared.purpose.Listed.{Listed}
use Rattle.program_follower.specs.Program.{listed, program_of, pids_of, known_pids}
use Rattle.program_follower.specs.Following.{on_map}
use Rattle.program_follower.specs.Purposes.{writing_cues}
use Rattle.program_laws.specs.Writing.{Along}
use Rattle.program_laws.proofs.FaultLemmas.{Each-map, Each-parts, no_cue_packets}
use Rattle.program_laws.proofs.WritingLemmas.{off_other}
use Rattle.injector.specs.Steps.{Step, Message, Packet, packets_in, cued, sent_at}
use Rattle.cued_laws.proofs.PacketLemmas.{pid_parts, cue_of_none}
use Rattle.splice_plans.specs.Adverts.{setting_of}
use Rattle.splice_plans.specs.Switching.{Setting, switched_past, rest_at, spliced_network}
use Rattle.switch_laws.proofs.OtherLemmas.{among-self}
use Rattle.chain_engine.specs.Runs.{sent_by}
use Rattle.chain_engine.specs.Passing.{IsSoundNetwork, chain_at}
use Rattle.service_laws.specs.Messages.{is_for, own_steps}
use Rattle.service_laws.specs.Services.{ServiceTerms, configs_of, given_at, services_send, services_rest, services_output}
use Rattle.service_laws.specs.Faults.{meets, share_a_pid}
use Rattle.service_laws.specs.Laws.{AreServed, IsAlone, all_pids, EachIsAlone, OthersAreTheNetworks, NoCueGoesOut}
use Rattle.service_laws.proofs.PidLemmas.{one-append, one-apart, within-one-more, known-on, known-grows}
use Rattle.service_laws.proofs.PassLemmas.{out-onto, not-pat, sound-first, cued-sound, cued-read, others_packets_pass}
use Rattle.service_laws.proofs.OwnLemmas.{own_packets_stay, own_rest_stays}

-- ---- a service's own history

-- it has all packets
pub own-packets : (index : ℕ) (steps : List Step) → packets_in (own_steps index steps) ≡ packets_in steps
own-packets index [] = refl
own-packets index (Message m ∷ past) = by_test (is_for index m) (λ y. simp y (own-packets index past)) (λ n. simp n (own-packets index past))
own-packets index (Packet p ∷ past) = ap (λ l. p ∷ l) (own-packets index past)

-- a message sends nothing, whosever it is
own-message : (c : Config) (b : Bool) (m : _) (past : List Step) → cued c (if b then Message m ∷ past else past) ≡ cued c past
own-message c true m past = refl
own-message c false m past = refl

-- a network without a fault was without one
sound-earlier : (c : Config) (more past : List (List ℕ)) → IsSoundNetwork c (more ++ past) → IsSoundNetwork c past
sound-earlier c [] past s = s
sound-earlier c (p ∷ more) past s = sound-earlier c more past (sound-first c p (more ++ past) s)

-- what the chain of a service sends by its own history
abbrev sends : ServiceTerms → List ℕ → List Step → List (List ℕ)
sends s p past = chain_at s.config s.filed p (own_steps s.config.index past)

-- and at the end of the network
abbrev rests : ServiceTerms → List Step → List (List ℕ)
rests s steps = rest_at (setting_of s.config s.filed) (cued s.config (own_steps s.config.index steps))

-- for a packet on none of its PIDs the packet
own-passes : (s : ServiceTerms) (p : List ℕ) (past : List Step) → IsSoundNetwork s.config (p ∷ packets_in past) → on_one (known_pids (Some s.config.program) (packets_in past)) p ≡ false → sends s p past ≡ p ∷ []
own-passes s p past g off =
    let same = own-packets s.config.index past in
    others_packets_pass s.config s.filed p (own_steps s.config.index past) (subst (λ l. IsSoundNetwork s.config (p ∷ l)) (sym same) g) (ap (λ l. on_one (known_pids (Some s.config.program) l) p) same ∙ off)

-- for one on its PIDs packets on its PIDs
own-stays : (s : ServiceTerms) (p : List ℕ) (past : List Step) → IsSoundNetwork s.config (p ∷ packets_in past) → on_one (known_pids (Some s.config.program) (packets_in past)) p ≡ true
    → AllByRecursion (λ q. on_one (known_pids (Some s.config.program) (packets_in past)) q ≡ true) (sends s p past)
own-stays s p past g own =
    let same = own-packets s.config.index past in
    subst (λ l. AllByRecursion (λ q. on_one (known_pids (Some s.config.program) l) q ≡ true) (sends s p past)) same
    (own_packets_stay s.config s.filed p (own_steps s.config.index past) (subst (λ l. IsSoundNetwork s.config (p ∷ l)) (sym same) g) (ap (λ l. on_one (known_pids (Some s.config.program) l) p) same ∙ own))

-- and so at the end
own-rest : (s : ServiceTerms) (steps : List Step) → IsSoundNetwork s.config (packets_in steps)
    → AllByRecursion (λ q. on_one (known_pids (Some s.config.program) (packets_in steps)) q ≡ true) (rests s steps)
own-rest s steps g =
    let same = own-packets s.config.index steps in
    subst (λ l. AllByRecursion (λ q. on_one (known_pids (Some s.config.program) l) q ≡ true) (rests s steps)) same
    (own_rest_stays s.config s.filed (own_steps s.config.index steps) (subst (IsSoundNetwork s.config) (sym same) g))

-- ---- packets that a test takes

-- a filter leaves nothing of packets that it does not take
filter-none : (f : List ℕ → Bool) (qs : List (List ℕ)) → AllByRecursion (λ q. f q ≡ false) qs → filter f qs ≡ []
filter-none f [] h = refl
filter-none f (q ∷ qs) h = let n = h.0 in simp n (filter-none f qs h.1)

-- both cases of a test
pick : (P : List (List ℕ) → Type 0) (b : Bool) (xs ys : List (List ℕ)) → (b ≡ true → P xs) → (b ≡ false → P ys) → P (if b then xs else ys)
pick P true xs ys h k = h refl
pick P false xs ys h k = k refl

-- a service runs on this network, and the test takes no packet on its PIDs
pub record IsLeft (takes : List ℕ → Bool) (all : List (List ℕ)) (s : ServiceTerms) : Type 0 where
  pub sound : IsSoundNetwork s.config all
  pub left : (q : List ℕ) → on_one (known_pids (Some s.config.program) all) q ≡ true → takes q ≡ false

module _ (takes : List ℕ → Bool) where
  -- so it is with each of these services
  abbrev pub AreLeft : List (List ℕ) → List ServiceTerms → Type 0
  AreLeft all ss = AllByRecursion (IsLeft takes all) ss

  -- at a packet of the network
  module _ (all more : List (List ℕ)) (p : List ℕ) (past : List Step) (is : all ≡ more ++ (p ∷ packets_in past)) where
    -- the network up to the packet has no fault
    sound-here : (c : Config) → IsSoundNetwork c all → IsSoundNetwork c (p ∷ packets_in past)
    sound-here c s = sound-earlier c more (p ∷ packets_in past) (subst (IsSoundNetwork c) is s)

    -- what was on a PID then is on one now
    grown : (program : ℕ) (q : List ℕ) → on_one (known_pids (Some program) (packets_in past)) q ≡ true → on_one (known_pids (Some program) all) q ≡ true
    grown program q y =
        ap (λ l. on_one (known_pids (Some program) l) q) (is ∙ sym (append_assoc more (p ∷ []) (packets_in past)))
        ∙ known-grows program (more ++ p ∷ []) (packets_in past) q y

    -- for a packet on the PIDs of a service whose packets the test does not take, nothing goes out that it takes
    left-out : (x : ServiceTerms) → IsLeft takes all x → on_one (known_pids (Some x.config.program) (packets_in past)) p ≡ true → filter takes (sends x p past) ≡ []
    left-out x h y =
        filter-none takes (sends x p past)
        (Each-map (λ q. on_one (known_pids (Some x.config.program) (packets_in past)) q ≡ true) (λ q. takes q ≡ false) (λ q o. h.left q (grown x.config.program q o))
        (sends x p past) (own-stays x p past (sound-here x.config h.sound) y))

    -- nor the packet itself
    left-one : (x : ServiceTerms) → IsLeft takes all x → on_one (known_pids (Some x.config.program) (packets_in past)) p ≡ true → filter takes (p ∷ []) ≡ []
    left-one x h y = filter-none takes (p ∷ []) (h.left p (grown x.config.program p y), tt)

    -- where the test takes no service's packets, it takes what stands for a packet as it takes the packet
    given-left : (xs : List ServiceTerms) → AreLeft all xs → filter takes (given_at xs p past) ≡ filter takes (p ∷ [])
    given-left [] h = refl
    given-left (x ∷ xs) h =
        pick (λ l. filter takes l ≡ filter takes (p ∷ [])) (on_one (known_pids (Some x.config.program) (packets_in past)) p) (sends x p past) (given_at xs p past)
        (λ y. left-out x h.0 y ∙ sym (left-one x h.0 y))
        (λ n. given-left xs h.1)

    -- where it takes one service's, and no other's, it takes what the chain of that one sends
    module _ (s : ServiceTerms) (sound : IsSoundNetwork s.config all) (own : (q : List ℕ) → on_one (known_pids (Some s.config.program) all) q ≡ true → takes q ≡ true) where
      -- a packet that the test does not take is on none of its PIDs
      not-own : takes p ≡ false → on_one (known_pids (Some s.config.program) (packets_in past)) p ≡ false
      not-own n = by_test (on_one (known_pids (Some s.config.program) (packets_in past)) p) (λ y. absurd (true≢false (sym (own p (grown s.config.program p y)) ∙ n))) (λ n. n)

      -- for such a packet its chain sends the packet
      passes-here : on_one (known_pids (Some s.config.program) (packets_in past)) p ≡ false → filter takes (sends s p past) ≡ filter takes (p ∷ [])
      passes-here n = ap (filter takes) (own-passes s p past (sound-here s.config sound) n)

      -- so it takes what stands for a packet as it takes what that chain sends
      given-own : (before after : List ServiceTerms) → AreLeft all before → AreLeft all after → filter takes (given_at (before ++ s ∷ after) p past) ≡ filter takes (sends s p past)
      given-own [] after h g =
          pick (λ l. filter takes l ≡ filter takes (sends s p past)) (on_one (known_pids (Some s.config.program) (packets_in past)) p) (sends s p past) (given_at after p past)
          (λ y. refl)
          (λ n. given-left after g ∙ sym (passes-here n))
      given-own (x ∷ before) after h g =
          pick (λ l. filter takes l ≡ filter takes (sends s p past)) (on_one (known_pids (Some x.config.program) (packets_in past)) p) (sends x p past) (given_at (before ++ s ∷ after) p past)
          (λ y. left-out x h.0 y ∙ sym (left-one x h.0 y) ∙ sym (passes-here (not-own (h.0.left p (grown x.config.program p y)))))
          (λ n. given-own before after h.1 g)

  -- ---- over a whole run

  -- one packet more of what is still to come has come
  one-more : (all more : List (List ℕ)) (p : List ℕ) (past : List (List ℕ)) → all ≡ more ++ (p ∷ past) → all ≡ (more ++ p ∷ []) ++ past
  one-more all more p past is = is ∙ sym (append_assoc more (p ∷ []) past)

  module _ (xs : List ServiceTerms) (all : List (List ℕ)) (h : AreLeft all xs) where
    -- of what goes out for the packets of a network it takes what it takes of the network
    send-left : (steps : List Step) (more : List (List ℕ)) → all ≡ more ++ packets_in steps → filter takes (services_send xs steps) ≡ filter takes (reverse (packets_in steps))
    send-left [] more is = refl
    send-left (Message m ∷ past) more is = send-left past more is
    send-left (Packet p ∷ past) more is =
        filter-append takes (services_send xs past) (given_at xs p past)
        ∙ ap (λ l. l ++ filter takes (given_at xs p past)) (send-left past (more ++ p ∷ []) (one-more all more p (packets_in past) is))
        ∙ ap (λ l. filter takes (reverse (packets_in past)) ++ l) (given-left all more p past is xs h)
        ∙ sym (filter-append takes (reverse (packets_in past)) (p ∷ []))
        ∙ ap (filter takes) (sym (reverse-cons p (packets_in past)))

  -- of what is left at the end it takes nothing
  rest-none : (steps : List Step) (x : ServiceTerms) → IsLeft takes (packets_in steps) x → filter takes (rests x steps) ≡ []
  rest-none steps x h =
      filter-none takes (rests x steps)
      (Each-map (λ q. on_one (known_pids (Some x.config.program) (packets_in steps)) q ≡ true) (λ q. takes q ≡ false) h.left (rests x steps) (own-rest x steps h.sound))

  -- nor of what is left of all of them
  rest-left : (steps : List Step) (xs : List ServiceTerms) → AreLeft (packets_in steps) xs → filter takes (services_rest xs steps) ≡ []
  rest-left steps [] h = refl
  rest-left steps (x ∷ xs) h =
      filter-append takes (rests x steps) (services_rest xs steps)
      ∙ ap (λ l. l ++ filter takes (services_rest xs steps)) (rest-none steps x h.0)
      ∙ rest-left steps xs h.1

  -- where a test takes no service's packets, it takes of the output what it takes of the network
  pub output-left : (xs : List ServiceTerms) (steps : List Step) → AreLeft (packets_in steps) xs → filter takes (services_output xs steps) ≡ filter takes (reverse (packets_in steps))
  output-left xs steps h =
      filter-append takes (services_send xs steps) (services_rest xs steps)
      ∙ ap (λ l. filter takes (services_send xs steps) ++ l) (rest-left steps xs h)
      ∙ append-nil (filter takes (services_send xs steps))
      ∙ send-left xs (packets_in steps) h steps [] refl

  -- ---- one service among others

  module _ (before : List ServiceTerms) (s : ServiceTerms) (after : List ServiceTerms) where
    -- what the switch of its chain is told
    abbrev k : Setting
    k = setting_of s.config s.filed

    -- all services
    abbrev ss : List ServiceTerms
    ss = before ++ s ∷ after

    -- all that its chain has sent
    abbrev sent : List Step → List (List ℕ)
    sent steps = reverse (switched_past (setting_of s.config s.filed) (cued s.config (own_steps s.config.index steps)))

    -- with one packet more, that and what it sends for the packet
    sent-more : (p : List ℕ) (past : List Step) → sent (Packet p ∷ past) ≡ sent past ++ sends s p past
    sent-more p past =
        let back = cued s.config (own_steps s.config.index past) in
        let qs = sent_at s.config p (own_steps s.config.index past) in
        ap reverse (out-onto k back qs) ∙ reverse-onto (switched_past k back) (sends s p past)

    module _ (all : List (List ℕ)) (sound : IsSoundNetwork s.config all) (own : (q : List ℕ) → on_one (known_pids (Some s.config.program) all) q ≡ true → takes q ≡ true)
        (h : AreLeft all before) (g : AreLeft all after) where
      -- of what goes out for the packets of a network it takes what it takes of what the chain has sent
      send-own : (steps : List Step) (more : List (List ℕ)) → all ≡ more ++ packets_in steps → filter takes (services_send ss steps) ≡ filter takes (sent steps)
      send-own [] more is = refl
      send-own (Message m ∷ past) more is =
          send-own past more is
          ∙ ap (λ l. filter takes (reverse (switched_past k l))) (sym (own-message s.config (is_for s.config.index m) m (own_steps s.config.index past)))
      send-own (Packet p ∷ past) more is =
          filter-append takes (services_send ss past) (given_at ss p past)
          ∙ ap (λ l. l ++ filter takes (given_at ss p past)) (send-own past (more ++ p ∷ []) (one-more all more p (packets_in past) is))
          ∙ ap (λ l. filter takes (sent past) ++ l) (given-own all more p past is s sound own before after h g)
          ∙ sym (filter-append takes (sent past) (sends s p past))
          ∙ ap (filter takes) (sym (sent-more p past))

    -- and so at the end
    rest-own : (steps : List Step) (xs : List ServiceTerms) → AreLeft (packets_in steps) xs → AreLeft (packets_in steps) after → filter takes (services_rest (xs ++ s ∷ after) steps) ≡ filter takes (rests s steps)
    rest-own steps [] h g =
        filter-append takes (rests s steps) (services_rest after steps)
        ∙ ap (λ l. filter takes (rests s steps) ++ l) (rest-left steps after g)
        ∙ append-nil (filter takes (rests s steps))
    rest-own steps (x ∷ xs) h g =
        filter-append takes (rests x steps) (services_rest (xs ++ s ∷ after) steps)
        ∙ ap (λ l. l ++ filter takes (services_rest (xs ++ s ∷ after) steps)) (rest-none steps x h.0)
        ∙ rest-own steps xs h.1 g

    -- where a test takes one service's packets, and no other's, it takes of the output what it takes of what a chain of its own sends
    pub output-own : (steps : List Step) → IsSoundNetwork s.config (packets_in steps) → ((q : List ℕ) → on_one (known_pids (Some s.config.program) (packets_in steps)) q ≡ true → takes q ≡ true)
        → AreLeft (packets_in steps) before → AreLeft (packets_in steps) after
        → filter takes (services_output (before ++ s ∷ after) steps) ≡ filter takes (spliced_network (setting_of s.config s.filed) (sent_by s.config (own_steps s.config.index steps)))
    output-own steps sound own h g =
        filter-append takes (services_send ss steps) (services_rest ss steps)
        ∙ ap (λ l. l ++ filter takes (services_rest ss steps)) (send-own (packets_in steps) sound own h g steps [] refl)
        ∙ ap (λ l. filter takes (sent steps) ++ l) (rest-own steps before h g)
        ∙ sym (filter-append takes (sent steps) (rests s steps))
        ∙ ap (λ l. filter takes (reverse (switched_past k l) ++ rest_at k l)) (sym (reverse-reverse (cued s.config (own_steps s.config.index steps))))

-- ---- services that share no PID

-- no PID of the first is one of the second, or the PID of its cues
abbrev IsClearOf : ServiceTerms → List (List ℕ) → ServiceTerms → Type 0
IsClearOf s past x = meets x.config s.config past ≡ false

-- those behind a service are clear of it
clear-behind : (s : ServiceTerms) (past : List (List ℕ)) (xs : List ServiceTerms) → list_any (λ d. meets s.config d past || meets d s.config past) (configs_of xs) ≡ false → AllByRecursion (IsClearOf s past) xs
clear-behind s past [] h = tt
clear-behind s past (x ∷ xs) h =
    let r = or_parts (meets s.config x.config past || meets x.config s.config past) (list_any (λ d. meets s.config d past || meets d s.config past) (configs_of xs)) h in
    ((or_parts (meets s.config x.config past) (meets x.config s.config past) r.0).1, clear-behind s past xs r.1)

-- a test that takes none of some services does not take one of them
one-among : (f : Config → Bool) (before : List ServiceTerms) (s : ServiceTerms) (after : List ServiceTerms) → list_any f (configs_of (before ++ s ∷ after)) ≡ false → f s.config ≡ false
one-among f [] s after h = (or_parts (f s.config) (list_any f (configs_of after)) h).0
one-among f (x ∷ before) s after h = one-among f before s after (or_parts (f x.config) (list_any f (configs_of (before ++ s ∷ after))) h).1

-- where no two of them share a PID, all others are clear of one
clear-of : (past : List (List ℕ)) (before : List ServiceTerms) (s : ServiceTerms) (after : List ServiceTerms) → share_a_pid (configs_of (before ++ s ∷ after)) past ≡ false
    → AllByRecursion (IsClearOf s past) before × AllByRecursion (IsClearOf s past) after
clear-of past [] s after h = (tt, clear-behind s past after (or_parts (list_any (λ d. meets s.config d past || meets d s.config past) (configs_of after)) (share_a_pid (configs_of after) past) h).0)
clear-of past (x ∷ before) s after h =
    let f : Config → Bool = λ d. meets x.config d past || meets d x.config past in
    let r = or_parts (list_any f (configs_of (before ++ s ∷ after))) (share_a_pid (configs_of (before ++ s ∷ after)) past) h in
    let rest = clear-of past before s after r.1 in
    (((or_parts (meets x.config s.config past) (meets s.config x.config past) (one-among f before s after r.0)).0, rest.0), rest.1)

-- a packet on the PIDs of the one is on no PID of the other, nor on the PID of its cues
apart-from : (s x : ServiceTerms) (past : List (List ℕ)) → IsClearOf s past x → (q : List ℕ) → on_one (known_pids (Some x.config.program) past) q ≡ true
    → on_one (s.config.cue_pid ∷ known_pids (Some s.config.program) past) q ≡ false
apart-from s x past clear q y =
    let cue = s.config.cue_pid in
    let own = known_pids (Some s.config.program) past in
    one-apart (λ pid. is_among pid (cue ∷ own)) (known_pids (Some x.config.program) past) (cue ∷ own) (among-self cue own, within-one-more cue own) clear q y

-- nor is one of its own on the PID of its cues
own-cue : (s : ServiceTerms) (steps : List Step) → IsSoundNetwork s.config (packets_in steps) → (q : List ℕ) → on_one (known_pids (Some s.config.program) (packets_in steps)) q ≡ true → on s.config.cue_pid q ≡ false
own-cue s steps g q y =
    by_test (on cue q) (λ o. absurd (true≢false (sym y ∙ known-on s.config.program net q ∙ or_from (on_map (listed wanted net) q) (on_one (pids_of (program_of wanted net)) q) (off (listed wanted net) refl o) (apart o)))) (λ n. n)
  where
    cue : ℕ
    cue = s.config.cue_pid

    net : List (List ℕ)
    net = packets_in steps

    wanted : Option ℕ
    wanted = Some s.config.program

    off : (o : Option Listed) → listed (Some s.config.program) (packets_in steps) ≡ o → on s.config.cue_pid q ≡ true → on_map o q ≡ false
    off None known c = refl
    off (Some l) known c = off_other s.config.cue_pid l.pid q (pid_parts (Some s.config.program) s.config.cue_pid (not-pat s.config) (cued s.config steps) l (cued-sound s.config steps g) ((cued-read s.config steps g).same_pat ∙ known)).1 c

    apart : on s.config.cue_pid q ≡ true → on_one (pids_of (program_of (Some s.config.program) (packets_in steps))) q ≡ false
    apart c =
        ap (λ r. on_one (pids_of r) q) (sym (cued-read s.config steps g).program)
        ∙ cue_of_none (Some s.config.program) s.config.cue_pid (not-pat s.config) (cued s.config steps) (cued-sound s.config steps g) q c

-- ---- the laws

-- all of them are sound, and are left by a test
all-left : (takes : List ℕ → Bool) (all : List (List ℕ)) (xs : List ServiceTerms) → AllByRecursion (λ (s : ServiceTerms). IsSoundNetwork s.config all) xs
    → AllByRecursion (λ (s : ServiceTerms). (q : List ℕ) → on_one (known_pids (Some s.config.program) all) q ≡ true → takes q ≡ false) xs → AllByRecursion (IsLeft takes all) xs
all-left takes all [] a h = tt
all-left takes all (x ∷ xs) a h = (record { sound = a.0; left = h.0 }, all-left takes all xs a.1 h.1)

-- what holds of each service beside those before and behind it holds of all
pub at-each : (P : ServiceTerms → Type 0) (all before after : List ServiceTerms) → all ≡ before ++ after → ((before : List ServiceTerms) (s : ServiceTerms) (after : List ServiceTerms) → all ≡ before ++ s ∷ after → P s) → AllByRecursion P after
at-each P all before [] is f = tt
at-each P all before (s ∷ after) is f = (f before s after is, at-each P all (before ++ s ∷ []) after (is ∙ sym (append_assoc before (s ∷ []) after)) f)

-- the parts of services that run together
module _ (before : List ServiceTerms) (s : ServiceTerms) (after : List ServiceTerms) (past : List (List ℕ)) (a : AreServed (before ++ s ∷ after) past) where
  -- the network has no fault for it
  abbrev HasNetwork : ServiceTerms → Type 0
  HasNetwork x = IsSoundNetwork x.config past

  -- so it is with those before, with the one, and with those behind it
  sounds : AllByRecursion (λ (x : ServiceTerms). IsSoundNetwork x.config past) before × AllByRecursion (λ (x : ServiceTerms). IsSoundNetwork x.config past) (s ∷ after)
  sounds = Each-parts HasNetwork before (s ∷ after) a.sound

  -- and all others are clear of the one
  clear : AllByRecursion (IsClearOf s past) before × AllByRecursion (IsClearOf s past) after
  clear = clear-of past before s after a.apart

  module _ (takes : List ℕ → Bool) (left : (q : List ℕ) → on_one (s.config.cue_pid ∷ known_pids (Some s.config.program) past) q ≡ false → takes q ≡ false) where
    -- a test that takes packets of the one alone takes none of those that are clear of it
    by-clear : (xs : List ServiceTerms) → AllByRecursion (IsClearOf s past) xs → AllByRecursion (λ (x : ServiceTerms). (q : List ℕ) → on_one (known_pids (Some x.config.program) past) q ≡ true → takes q ≡ false) xs
    by-clear xs h = Each-map (IsClearOf s past) (λ (x : ServiceTerms). (q : List ℕ) → on_one (known_pids (Some x.config.program) past) q ≡ true → takes q ≡ false) (λ x m q y. left q (apart-from s x past m q y)) xs h

    -- so it takes none of those before it
    left-before : AllByRecursion (IsLeft takes past) before
    left-before = all-left takes past before sounds.0 (by-clear before clear.0)

    -- nor of those behind it
    left-after : AllByRecursion (IsLeft takes past) after
    left-after = all-left takes past after sounds.1.1 (by-clear after clear.1)

-- the packets of one service are those of a run of its own
alone-at : (before : List ServiceTerms) (s : ServiceTerms) (after : List ServiceTerms) (steps : List Step) → AreServed (before ++ s ∷ after) (packets_in steps) → IsAlone (before ++ s ∷ after) steps s
alone-at before s after steps a =
    let past = packets_in steps in
    let cue = s.config.cue_pid in
    let pids = known_pids (Some s.config.program) past in
    let left : (q : List ℕ) → on_one (cue ∷ pids) q ≡ false → on_one pids q ≡ false = λ q n. (or_parts (on cue q) (on_one pids q) n).1 in
    output-own (on_one pids) before s after steps (sounds before s after past a).1.0 (λ q y. y) (left-before before s after past a (on_one pids) left) (left-after before s after past a (on_one pids) left)

-- so it is with each of them
pub each_is_alone : EachIsAlone
each_is_alone ss steps a = at-each (IsAlone ss steps) ss [] ss refl
    (λ before s after is. subst (λ l. IsAlone l steps s) (sym is) (alone-at before s after steps (subst (λ l. AreServed l (packets_in steps)) is a)))

-- a packet on the PIDs of one of them is on a PID of all
all-within : (past : List (List ℕ)) (xs : List ServiceTerms) → AllByRecursion (λ (x : ServiceTerms). (q : List ℕ) → on_one (known_pids (Some x.config.program) past) q ≡ true → on_one (all_pids xs past) q ≡ true) xs
all-within past [] = tt
all-within past (x ∷ xs) =
    let own = known_pids (Some x.config.program) past in
    let rest = all_pids xs past in (
      λ q y. one-append own rest q ∙ or_left (on_one own q) (on_one rest q) y,
      Each-map (λ (x : ServiceTerms). (q : List ℕ) → on_one (known_pids (Some x.config.program) past) q ≡ true → on_one (all_pids xs past) q ≡ true)
          (λ (z : ServiceTerms). (q : List ℕ) → on_one (known_pids (Some z.config.program) past) q ≡ true → on_one (all_pids (x ∷ xs) past) q ≡ true)
          (λ z h q y. one-append own rest q ∙ or_right (on_one own q) (on_one rest q) (h q y)) xs (all-within past xs),
    )

-- the packets on no PID of any of them are the network's
pub others_are_the_networks : OthersAreTheNetworks
others_are_the_networks ss steps a =
    let past = packets_in steps in
    let pids = all_pids ss past in
    output-left (λ q. not (on_one pids q)) ss steps
    (all-left (λ q. not (on_one pids q)) past ss a.sound
    (Each-map (λ (x : ServiceTerms). (q : List ℕ) → on_one (known_pids (Some x.config.program) past) q ≡ true → on_one (all_pids ss past) q ≡ true)
    (λ (x : ServiceTerms). (q : List ℕ) → on_one (known_pids (Some x.config.program) past) q ≡ true → not (on_one (all_pids ss past) q) ≡ false)
    (λ x h q y. not_from_true (on_one pids q) (h q y)) ss (all-within past ss)))

-- what holds along a network of each packet alone holds of each packet
along-each : (pid : ℕ) (past : List (List ℕ)) → Along (λ p past. on pid p ≡ false) past → AllByRecursion (λ p. on pid p ≡ false) past
along-each pid [] h = tt
along-each pid (p ∷ past) h = (h.0, along-each pid past h.1)

-- no packet is on the PID of one service's cues
no-cue-at : (before : List ServiceTerms) (s : ServiceTerms) (after : List ServiceTerms) (steps : List Step) → AreServed (before ++ s ∷ after) (packets_in steps)
    → filter (on s.config.cue_pid) (services_output (before ++ s ∷ after) steps) ≡ []
no-cue-at before s after steps a =
    let past = packets_in steps in
    let cue = s.config.cue_pid in
    let pids = known_pids (Some s.config.program) past in
    let sound = (sounds before s after past a).1.0 in
    let left : (q : List ℕ) → on_one (cue ∷ pids) q ≡ false → on cue q ≡ false = λ q n. (or_parts (on cue q) (on_one pids q) n).0 in
    let own : IsLeft (on cue) past s = record { sound = sound; left = own-cue s steps sound } in
    output-left (on cue) (before ++ s ∷ after) steps
    (each-append (IsLeft (on cue) past) before (s ∷ after) (left-before before s after past a (on cue) left) (own, left-after before s after past a (on cue) left))
    ∙ filter-reverse (on cue) past
    ∙ ap reverse (filter-none (on cue) past (along-each cue past (no_cue_packets (writing_cues s.config) cue past refl refl sound.sound)))

-- nor on that of any of them
pub no_cue_goes_out : NoCueGoesOut
no_cue_goes_out ss steps a = at-each (λ (s : ServiceTerms). filter (on s.config.cue_pid) (services_output ss steps) ≡ []) ss [] ss refl
    (λ before s after is. subst (λ l. filter (on s.config.cue_pid) (services_output l steps) ≡ []) (sym is) (no-cue-at before s after steps (subst (λ l. AreServed l (packets_in steps)) is a)))
