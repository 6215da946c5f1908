-- What is flushed at the end of a run is what the run sent; and runs of the chain, where some pieces of messages are spoken of.
use Rattle.std.specs.Prelude.{Result, Ok, Err, ◌⊎◌, OnOk, IfOk, IfErr, IfSome, IsOkAnd, IsErrAnd}
use Rattle.std.specs.declared.io.Error.{Error}
use Rattle.std.proofs.Common.{◌≡◌, ◌≤◌, ℕ, List, [], ◌++◌, take, length, reverse, Option, None, Some, Bool, true, false, ◌≢◌, ap, sym, subst, arith, ◌∙◌, refl, inl, inr}
use Rattle.std.proofs.lemmas.List.{append-nil}
use Rattle.std.specs.Io.KnownBytes.{Keeps, append_known, prepend_known}
use Rattle.psi_tables.specs.declared.config.Config.{Config}
use Rattle.ts_packet.specs.declared.sink.PutFault.{PutFault}
use Rattle.ad_library.specs.Advertisements.{Advertisement}
use Rattle.splice_plans.specs.declared.report.SwitchReport.{SwitchReport}
use Rattle.scte104_codec.specs.declared.reply.Reply.{Reply}
use Rattle.std.specs.Io.KnownBytes.{Appends}
use Rattle.chain_engine.specs.Automation.{Exchange, Take}
use Rattle.chain_engine.specs.Talks.{CountsEnd, messages_taken, exchanges_of}
use Rattle.chain_engine.specs.Hearing.{answers_to, lost_by}
use Rattle.chain_engine.proofs.ExchangeLemmas.{answers_long, takes_are, answers_are}
use Rattle.automations.specs.ScriptTakes.{ScriptTakes}
use Rattle.automations.specs.ScriptAnswers.{ScriptAnswers}
use Rattle.automations.specs.ScriptExchanges.{ScriptExchanges}
use Rattle.automations.specs.declared.script.Script.{Script}
use Rattle.automations.proofs.AnswerLemmas.{all_given, their_lines}
use Rattle.chain_engine.specs.declared.hearing.SessionEnd.{SessionEnd}
use Rattle.chain_engine.specs.Runs.{Exchanged, InjectsAll}
use Rattle.chain_engine.specs.Splices.{SplicesAll}
use Rattle.chain_engine.specs.ChainRuns as chain
use Rattle.chain_engine.specs.declared.report.Report.{Report}
use Rattle.chain_engine.proofs.ForgetLemmas.{serves_so, stops_so, chain_stops_so}
use Rattle.unit_cut.specs.Runs.{CutsAll}
use Rattle.passages.specs.Runs.{AsksByLines, PrintsReplies, PassesAll, Cuts, Cues, Splices, Plays, CuesStop, PlaysStop}
use Rattle.ts_packet.specs.declared.sink.PutFault.TheVariants.{Failed}
use Rattle.packet_runs.specs.Devices.{OfPackets, OfPut, OfSending}
use Rattle.run_ends.specs.declared.attended.LastFlush.{LastFlush}
use Rattle.run_ends.specs.declared.attended.LastFlush.TheVariants as flush
use Rattle.run_ends.specs.declared.attended.LastFlush.TheVariants.{Done}
use Rattle.passages.specs.Runs.{told_fault}
use Rattle.passages.specs.Stops.{OfAsked, SaysOfInput, SaysOfRun}
use Rattle.passages.specs.declared.fault.ProgramFault.{ProgramFault}
use Rattle.passages.specs.declared.fault.ProgramFault.TheVariants.{Unflushed}
use Rattle.passages.specs.declared.running.Ran.{Ran}
use Rattle.passages.specs.declared.tell.Side.{Side}
use Rattle.passages.specs.declared.tell.Stopped.{Stopped}
use Rattle.passages.specs.declared.watch.Watch.{Watch}
use Rattle.passages.specs.Stopping.{IsStoppedWith}
use Rattle.passages.specs.declared.listening.ListenFault.{ListenFault}
use Rattle.passages.specs.declared.listening.ListenFault.TheVariants as listen

-- ---- at a device

-- what follows from what is out
pub passes_so : {R : Type 0} (passes : List ℕ → List (List ℕ) → R → Type 0) (input : Option (List ℕ)) (is_out is_out' : List (List ℕ) → Type 0) (report : R)
    → ((ps : List (List ℕ)) → is_out ps → is_out' ps) → PassesAll passes input is_out report → PassesAll passes input is_out' report
passes_so passes None is_out is_out' report so h = tt
passes_so passes (Some bs) is_out is_out' report so h = let (ps, said, out) = h in (ps, said, so ps out)

-- what is known of a flushed output is what was known before
kept_bytes : (start out out' : Option (List ℕ)) (more : List ℕ) → IfSome start (λ bs. out ≡ Some (bs ++ more)) → Keeps out out' → IfSome start (λ bs. out' ≡ Some (bs ++ more))
kept_bytes None out out' more h k = tt
kept_bytes (Some bs) None out' more h k = absurd (cc)
kept_bytes (Some bs) (Some xs) None more h k = absurd k
kept_bytes (Some bs) (Some xs) (Some ys) more h k = ap Some k ∙ h

-- nothing was written at first
pub written_none : (start : Option (List ℕ)) (form : List (List ℕ) → List ℕ) → form [] ≡ [] → IfSome start (λ bs. start ≡ Some (bs ++ form []))
written_none None form e = tt
written_none (Some bs) form e = ap Some (sym (append-nil bs) ∙ ap (λ l. bs ++ l) (sym e))

-- nothing was put into the buffer at first
pub buffered_none : (start : Option (List ℕ)) (form : List (List ℕ) → List ℕ) → form [] ≡ [] → IfSome start (λ bs. append_known start [] ≡ Some (bs ++ form []))
buffered_none None form e = tt
buffered_none (Some bs) form e = ap (λ l. Some (bs ++ l)) (sym e)

-- nothing was read into the buffer at first
pub read_none : (left : Option (List ℕ)) → prepend_known [] left ≡ left
read_none None = refl
read_none (Some bs) = refl

-- what is told of a run that went through is what its outcome says
pub told_ok : {T : Type 0} (o : Result T ProgramFault) (r : Result (Ran T) Stopped) (said : T → Type 0) (said_err : ProgramFault → Stopped → Type 0)
    → IfOk o (λ report. IsOkAnd r (λ ran. ran.report ≡ report)) → IfErr o (λ fault. IsErrAnd r (said_err fault)) → IfOk o said → IfOk r (λ ran. said ran.report)
told_ok (Ok x) (Ok ran) said said_err e f h = subst said (sym e) h
told_ok (Ok x) (Err stopped) said said_err e f h = tt
told_ok (Err fault) (Ok ran) said said_err e f h = absurd f
told_ok (Err fault) (Err stopped) said said_err e f h = tt

-- and of one that stopped
pub told_err : {T : Type 0} (o : Result T ProgramFault) (r : Result (Ran T) Stopped) (side : ProgramFault → Side) (reason : ProgramFault → Option Error) (seen : Option Watch)
    (is_flushed : Bool) (said : ProgramFault → Type 0)
    → IfOk o (λ report. IsOkAnd r (λ ran. ran.report ≡ report)) → IfErr o (λ fault. IsErrAnd r (IsStoppedWith fault (side fault) (reason fault) seen))
    → IfErr o (λ fault. IsErrAnd r (λ stopped. stopped.is_flushed ≡ is_flushed))
    → IfErr o (λ fault. is_flushed ≡ true → said fault) → IfErr r (λ stopped. stopped.is_flushed ≡ true → said stopped.fault)
told_err (Ok x) (Ok ran) side reason seen is_flushed said e f k h = tt
told_err (Ok x) (Err stopped) side reason seen is_flushed said e f k h = absurd e
told_err (Err fault) (Ok ran) side reason seen is_flushed said e f k h = tt
told_err (Err fault) (Err stopped) side reason seen is_flushed said e f k h = λ is. subst said (sym f.0) (h (sym k ∙ is))

-- and what its fault says, whether its output was flushed or not
pub told_says : {T : Type 0} (o : Result T ProgramFault) (r : Result (Ran T) Stopped) (side : ProgramFault → Side) (reason : ProgramFault → Option Error) (seen : Option Watch)
    (stops : ProgramFault → Option (List ℕ) → OfPackets → OfPut → OfSending → Type 0) (input : Option (List ℕ))
    → IfOk o (λ report. IsOkAnd r (λ ran. ran.report ≡ report)) → IfErr o (λ fault. IsErrAnd r (IsStoppedWith fault (side fault) (reason fault) seen))
    → IfErr o (λ fault. (fault ≡ Unflushed) ⊎ SaysOfInput (stops fault) input) → IfErr r (λ stopped. SaysOfRun stops stopped.fault input)
told_says (Ok x) (Ok ran) side reason seen stops input e f h = tt
told_says (Ok x) (Err stopped) side reason seen stops input e f h = absurd e
told_says (Err fault) (Ok ran) side reason seen stops input e f h = tt
told_says (Err fault) (Err stopped) side reason seen stops input e f h = subst (λ k. SaysOfRun stops k input) (sym f.0) (inr h)

-- what follows from what is said of an answer
pub if_ok_so : {T E : Type 0} (r : Result T E) (said said' : T → Type 0) → ((x : T) → said x → said' x) → IfOk r said → IfOk r said'
if_ok_so (Ok x) said said' so h = so x h
if_ok_so (Err f) said said' so h = tt

pub if_err_so : {T E : Type 0} (r : Result T E) (said said' : E → Type 0) → ((x : E) → said x → said' x) → IfErr r said → IfErr r said'
if_err_so (Ok x) said said' so h = tt
if_err_so (Err f) said said' so h = so f h

-- what holds whatever a run answered
pub anyway : {T E X : Type 0} (r : Result T E) → X → OnOk r X
anyway (Ok x) h = h
anyway (Err f) h = tt

-- A run that went through, behind a sink of bytes that stands for them, and whose output was flushed. `form` is what is made of packets:
-- their bytes, or their lines.
pub finished : {R F : Type 0} (passes : List ℕ → List (List ℕ) → R → Type 0) (input start out out' : Option (List ℕ)) (form : List (List ℕ) → List ℕ) (broken : Bool) (o r : Result R F)
    → IfOk o (PassesAll passes input (λ ps. (broken ≡ false) × IfSome start (λ bs. out ≡ Some (bs ++ form ps)))) → IfErr o (λ f. r ≡ Err f) → IfOk o (λ report. OnOk r (r ≡ Ok report)) → OnOk r (Keeps out out')
    → IfOk r (PassesAll passes input (λ ps. IfSome start (λ bs. out' ≡ Some (bs ++ form ps))))
finished passes input start out out' form broken o (Err f) h e d k = tt
finished passes input start out out' form broken (Ok x) (Ok y) h e d k =
    let same : x ≡ y = cc in
    rw (← same) (passes_so passes input (λ ps. (broken ≡ false) × IfSome start (λ bs. out ≡ Some (bs ++ form ps))) (λ ps. IfSome start (λ bs. out' ≡ Some (bs ++ form ps))) x (λ ps w. kept_bytes start out out' (form ps) w.1 k) h)
finished passes input start out out' form broken (Err f) (Ok y) h e d k = absurd (cc)

-- what is told of a run that was asked is what its fault says
pub asked_told : (fault : ListenFault) (said : ListenFault → Type 0) (refused : Type 0) → said fault → OfAsked (told_fault fault) said refused
asked_told listen.Accept said refused h = h
asked_told (listen.Run fault) said refused h = h

-- A run that stopped, behind a writer whose bytes stand for packets, and whose output was flushed. `form` is what is made of packets, and
-- `part` of one alone: their bytes, or their lines.
pub stopped : {R : Type 0} (stops : ProgramFault → Option (List ℕ) → OfPackets → OfPut → OfSending → Type 0)
    → ((fault : ProgramFault) (input : Option (List ℕ)) (is_out is_out' : OfPackets) (fails fails' : OfPut) (unsent unsent' : OfSending)
    → ((ps : List (List ℕ)) → is_out ps → is_out' ps) → ((ps : List (List ℕ)) (p : List ℕ) (f : PutFault) → fails ps p f → fails' ps p f)
    → ((ps : List (List ℕ)) (f : PutFault) → unsent ps f → unsent' ps f)
    → stops fault input is_out fails unsent → stops fault input is_out' fails' unsent')
    → (input start out out' : Option (List ℕ)) (form : List (List ℕ) → List ℕ) (part : List ℕ → List ℕ) (broken : Bool) (last : LastFlush) (o r : Result R ProgramFault)
    → IfErr o (λ fault. stops fault input (λ ps. (broken ≡ false) × IfSome start (λ bs. out ≡ Some (bs ++ form ps)))
    (λ ps p f. (broken ≡ true) × (f ≢ Failed) × ((n : ℕ) × IfSome start (λ bs. out ≡ Some (bs ++ (form ps ++ take n (part p))))))
    (λ ps f. (broken ≡ true) × (f ≢ Failed) × IfSome start (λ bs. out ≡ Some (bs ++ form ps))))
    → (last ≡ Done → r ≡ o) → (last ≡ Done → Keeps out out')
    → IfErr r (λ fault. last ≡ Done → stops fault input (λ ps. IfSome start (λ bs. out' ≡ Some (bs ++ form ps)))
    (λ ps p f. (n : ℕ) × IfSome start (λ bs. out' ≡ Some (bs ++ (form ps ++ take n (part p)))))
    (λ ps f. IfSome start (λ bs. out' ≡ Some (bs ++ form ps))))
stopped stops so input start out out' form part broken last o (Ok x) h e k = tt
stopped stops so input start out out' form part broken last o (Err fault) h e k = λ done.
    let was = subst (λ q. IfErr q (λ f. stops f input (λ ps. (broken ≡ false) × IfSome start (λ bs. out ≡ Some (bs ++ form ps)))
    (λ ps p x. (broken ≡ true) × (x ≢ Failed) × ((n : ℕ) × IfSome start (λ bs. out ≡ Some (bs ++ (form ps ++ take n (part p))))))
    (λ ps x. (broken ≡ true) × (x ≢ Failed) × IfSome start (λ bs. out ≡ Some (bs ++ form ps))))) (sym (e done)) h in
    so fault input _ _ _ _ _ _ (λ ps w. kept_bytes start out out' (form ps) w.1 (k done))
    (λ ps p x w. let (n, is_out) = w.2 in (n, kept_bytes start out out' (form ps ++ take n (part p)) is_out (k done)))
    (λ ps x w. kept_bytes start out out' (form ps) w.2 (k done)) was

-- what it says of the network's bytes alone, unless what is left of it could not be flushed
pub says_of_input : {R : Type 0} (stops : ProgramFault → Option (List ℕ) → OfPackets → OfPut → OfSending → Type 0)
    → ((fault : ProgramFault) (input : Option (List ℕ)) (is_out is_out' : OfPackets) (fails fails' : OfPut) (unsent unsent' : OfSending)
    → ((ps : List (List ℕ)) → is_out ps → is_out' ps) → ((ps : List (List ℕ)) (p : List ℕ) (f : PutFault) → fails ps p f → fails' ps p f)
    → ((ps : List (List ℕ)) (f : PutFault) → unsent ps f → unsent' ps f)
    → stops fault input is_out fails unsent → stops fault input is_out' fails' unsent')
    → (input : Option (List ℕ)) (is_out : OfPackets) (fails : OfPut) (unsent : OfSending) (o r : Result R ProgramFault) (lost : ProgramFault)
    → IfErr o (λ fault. stops fault input is_out fails unsent) → IfErr o (λ fault. r ≡ Err fault) → OnOk o (IfErr r (λ fault. fault ≡ lost))
    → IfErr r (λ fault. (fault ≡ lost) ⊎ SaysOfInput (stops fault) input)
says_of_input stops so input is_out fails unsent (Ok x) (Ok y) lost h first flushed = tt
says_of_input stops so input is_out fails unsent (Ok x) (Err f) lost h first flushed = inl flushed
says_of_input stops so input is_out fails unsent (Err fault) r lost h first flushed =
    subst (λ q. IfErr q (λ f. (f ≡ lost) ⊎ SaysOfInput (stops f) input)) (sym first)
    (inr (so fault input _ _ _ _ _ _ (λ ps w. tt) (λ ps p f w. tt) (λ ps f w. tt) h))

-- one that went through was flushed
pub is_done_ok : {R F : Type 0} (o r : Result R F) (last : LastFlush) (lost : F) → last ≢ flush.Due → IfErr o (λ fault. r ≡ Err fault)
    → (last ≡ flush.Failed → OnOk o (r ≡ Err lost)) → OnOk r (last ≡ Done)
is_done_ok o (Err f) last lost made first failed = tt
is_done_ok o (Ok y) Done lost made first failed = refl
is_done_ok o (Ok y) flush.Due lost made first failed = absurd (made refl)
is_done_ok (Ok x) (Ok y) flush.Failed lost made first failed = let is = failed refl in absurd (cc)
is_done_ok (Err f) (Ok y) flush.Failed lost made first failed = absurd (cc)

-- ---- what the runs below say

pub cuts : (pid from length : ℕ) (input : Option (List ℕ)) (is_out : List (List ℕ) → Type 0) (report : Unit {0}) → CutsAll pid from length input is_out → PassesAll (Cuts pid from length) input is_out report
cuts pid from length None is_out report h = tt
cuts pid from length (Some bs) is_out report h = (_, (h.0, refl), h.1)

module _ (told told' : Option SessionEnd → List Take → List Reply → Type 0) (so : (ending : Option SessionEnd) (ts : List Take) (rs : List Reply) → length rs ≤ length (messages_taken ts) → told ending ts rs → told' ending ts rs) (c : Config) where
  pub cues : (input : Option (List ℕ)) (is_out : List (List ℕ) → Type 0) (report : Report) → InjectsAll c input is_out told report
      → PassesAll (Cues c told') input is_out report
  cues None is_out report h = tt
  cues (Some bs) is_out report h =
      (_, record { sound = h.sound; ts = h.ts; rs = h.rs; serves = serves_so c told told' so _ _ _ _ h.serves; written = refl; counted = h.counted }, h.written)

  pub cues_so : (input : Option (List ℕ)) (is_out : List (List ℕ) → Type 0) (report : Report) → PassesAll (Cues c told) input is_out report
      → PassesAll (Cues c told') input is_out report
  cues_so None is_out report h = tt
  cues_so (Some bs) is_out report (ps, h, out) =
      (ps, record { sound = h.sound; ts = h.ts; rs = h.rs; serves = serves_so c told told' so _ _ _ _ h.serves; written = h.written; counted = h.counted }, out)

  pub cues_stop_so : (fault : ListenFault) (input : Option (List ℕ)) (is_out : List (List ℕ) → Type 0) (fails : List (List ℕ) → List ℕ → PutFault → Type 0)
      (unsent : List (List ℕ) → PutFault → Type 0)
      → CuesStop c told fault input is_out fails unsent → CuesStop c told' fault input is_out fails unsent
  cues_stop_so listen.Accept input is_out fails unsent h = h
  cues_stop_so (listen.Run fault) input is_out fails unsent h = stops_so c told told' so fault input is_out fails unsent h

  module _ (filed : ℕ → Option Advertisement) where
    pub runs_so : (input : Option (List ℕ)) (is_out : List (List ℕ) → Type 0) (report : Report) → chain.RunsAll c filed input is_out told report → chain.RunsAll c filed input is_out told' report
    runs_so None is_out report h = tt
    runs_so (Some bs) is_out report h =
        record { sound = h.sound; bytes = h.bytes; ts = h.ts; rs = h.rs; serves = serves_so c told told' so _ _ _ _ h.serves; written = h.written; counted = h.counted }

    pub plays : (input : Option (List ℕ)) (is_out : List (List ℕ) → Type 0) (report : Report) → chain.RunsAll c filed input is_out told report
        → PassesAll (Plays c filed told') input is_out report
    plays None is_out report h = tt
    plays (Some bs) is_out report h =
        (_, record { sound = h.sound; bytes = h.bytes; ts = h.ts; rs = h.rs; serves = serves_so c told told' so _ _ _ _ h.serves; written = refl; counted = h.counted }, h.written)

    pub plays_so : (input : Option (List ℕ)) (is_out : List (List ℕ) → Type 0) (report : Report) → PassesAll (Plays c filed told) input is_out report
        → PassesAll (Plays c filed told') input is_out report
    plays_so None is_out report h = tt
    plays_so (Some bs) is_out report (ps, h, out) =
        (ps, record { sound = h.sound; bytes = h.bytes; ts = h.ts; rs = h.rs; serves = serves_so c told told' so _ _ _ _ h.serves; written = h.written; counted = h.counted }, out)

    pub plays_stop_so : (fault : ListenFault) (input : Option (List ℕ)) (is_out : List (List ℕ) → Type 0) (fails : List (List ℕ) → List ℕ → PutFault → Type 0)
        (unsent : List (List ℕ) → PutFault → Type 0)
        → PlaysStop c filed told fault input is_out fails unsent → PlaysStop c filed told' fault input is_out fails unsent
    plays_stop_so listen.Accept input is_out fails unsent h = h
    plays_stop_so (listen.Run fault) input is_out fails unsent h = chain_stops_so c told told' so filed fault input is_out fails unsent h

pub splices : (c : Config) (filed : ℕ → Option Advertisement) (input : Option (List ℕ)) (is_out : List (List ℕ) → Type 0) (report : SwitchReport) → SplicesAll c filed input is_out report
    → PassesAll (Splices c filed) input is_out report
splices c filed None is_out report h = tt
splices c filed (Some bs) is_out report h = (_, record { sound = h.sound; written = refl; counted = h.counted }, h.written)

-- ---- an automation that is listened to

-- What an automation exchanges behind another one that holds a reference to it, whose name is kept, it exchanges itself. `name` and `inner` are
-- those of the reference.
pub heard_alone : {X H : Type 0} (s t : H) (name : H → ℕ) (inner : H → X) (between : X → List Exchange → X → Type 0) (failures : X → ℕ) (old last : X)
    → inner s ≡ old → (name t ≡ name s → last ≡ inner t)
    → (ending : Option SessionEnd) (ts : List Take) (rs : List Reply) → length rs ≤ length (messages_taken ts)
    → Exchanged (λ a es b. (name b ≡ name a) × between (inner a) es (inner b)) (λ a. failures (inner a)) s t ending ts rs
    → Exchanged between failures old last ending ts rs
heard_alone s t name inner between failures old last begins ends ending ts rs few h =
    let is = ends h.exchanges.0 in
    let es = exchanges_of (answers_to (lost_by ending) rs) (reverse ts) in
    record {
      exchanges = subst (λ x. between x es last) begins (subst (λ y. between (inner s) es y) (sym is) h.exchanges.1);
      counted = subst (λ x. CountsEnd None ending (failures x) (failures last)) begins
          (subst (λ y. CountsEnd None ending (failures (inner s)) (failures y)) (sym is) h.counted);
    }

-- ---- a script

-- what it tells of a run: its takes are its lines', and its replies were printed
module _ {W M : Type 0} (contents : W → Option (List ℕ)) (s t : Script W M) (ending : Option SessionEnd) (ts : List Take) (rs : List Reply) (few : length rs ≤ length (messages_taken ts))
    (h : ScriptExchanges contents s (exchanges_of (answers_to (lost_by ending) rs) (reverse ts)) t) where
  script_asks : AsksByLines s ts
  script_asks script gives fits =
      let takes = subst (λ l. ScriptTakes s l t) (takes_are (answers_to (lost_by ending) rs) ts) h.0 in
      (takes script gives fits).0

  script_replies : PrintsReplies contents s t ending rs
  script_replies e =
      let long = answers_long (lost_by ending) rs in
      let told = subst (λ l. ScriptAnswers contents s l t) (answers_are (answers_to (lost_by ending) rs) ts (omega (arith, long, few))) h.1 in
      let all = subst (λ b. ScriptAnswers contents s (answers_to b rs) t) e told in
      subst (Appends (contents s.replies.writer) (contents t.replies.writer)) (their_lines rs) (all (all_given rs))

  pub script_tells : AsksByLines s ts × PrintsReplies contents s t ending rs
  script_tells = (script_asks, script_replies)
