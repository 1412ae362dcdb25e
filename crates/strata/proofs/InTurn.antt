-- Sessions that are served one after another. `none_so_far` to `none_accepted` are how the loop begins, continues and ends, `none_come` to
-- `none_comes` how clients are counted. The main lemma is `tells`: the fault and the status say whether all were served to their end, which
-- was the first that stopped, or that fewer were served.
use Rattle.std.proofs.Common.{◌≡◌, ◌≢◌, ◌∙◌, sym, ap, subst, refl, ℕ, ◌+◌, ◌-◌, ◌^◌, ◌<◌, ◌⊎◌, inl, inr, List, [], ◌∷◌, ◌++◌, length, Option, Some, None, Result, Ok, Err, arith}
use Rattle.std.specs.List.{AllByRecursion}
use Rattle.std.proofs.lemmas.List.{length-append}
use Rattle.devices.specs.declared.failed.Failed.{Failed}
use Rattle.devices.specs.declared.counts.Accepts.{Accepts}
use Rattle.devices.specs.declared.counts.Pulls.{Pulls}
use Rattle.devices.specs.declared.counts.Pushes.{Pushes}
use Rattle.devices.specs.Counting.{up, accepted}
use Rattle.reply_model.specs.declared.session.Session.{Session}
use Rattle.reply_model.specs.Readings.{Sourced}
use Rattle.serve_loop.specs.declared.stream_fault.StreamFault.{StreamFault}
use Rattle.serve_loop.specs.declared.stream_fault.StreamFault.TheVariants.{Read, Write}
use Rattle.serve_loop.specs.declared.done.Done.{Done}
use Rattle.serve_loop.specs.Serving.{Trace}
use Rattle.strata.specs.declared.faults.Fault.{Fault}
use Rattle.strata.specs.declared.faults.Fault.TheVariants.{Accept, InSession}
use Rattle.strata.specs.Faults.{status_of}
use Rattle.strata.specs.Laws.{IsOfFirstStopped, IsWhole, HasMetItsEnd, TellsOfSessions}
use Rattle.strata.specs.Sessions.{accepting, accept_failures, fault_of, first_fault, or_later, status_at, Accepting, AreServed, EndWith, IsSession, ServedSession}
use Rattle.strata.proofs.Ended.{fault_status}

-- sessions so far, and the status of the first that stopped
pub record AreSoFar (A : Type 0) (first : Session) (by : Sourced) (count status : ℕ) : Type 0 where
  pub served : List (ServedSession A first by)
  pub count_is : length served ≡ count
  pub status_is : status ≡ status_at (first_fault 1 served)

-- this many clients were accepted, and no accept failed
pub record HaveCome (count : ℕ) (before now : Accepts) : Type 0 where
  pub clients : now.clients ≡ before.clients + count
  pub failures : now.failures ≡ before.failures

-- before the first accept no client was accepted
pub none_come : (before : Accepts) → HaveCome 0 before before
none_come before = record { clients = omega arith; failures = refl }

up_small : (n : ℕ) → n < 2 ^ 64 - 1 → up n ≡ n + 1
up_small n small = omega (arith, small)

-- with one accept more there is one client more
pub one_comes : {X : Type 0} (count : ℕ) (r : Result X Failed) (client : X) (before now after : Accepts) → r ≡ Ok client
    → after ≡ accepted now r → before.clients < 2 ^ 63 → count < 2 ^ 32 → HaveCome count before now → HaveCome (count + 1) before after
one_comes count (Ok c) client before now after is e few less come = record {
  clients =
      ap (λ (x : Accepts). x.clients) e
      ∙ up_small now.clients (let k = come.clients in omega (arith, k, few, less))
      ∙ (let k = come.clients in omega (arith, k));
  failures = ap (λ (x : Accepts). x.failures) e ∙ come.failures;
}
one_comes count (Err f) client before now after is e few less come = absurd (cc)

-- and a failed accept is one failure more, and no client
pub none_comes : {X : Type 0} (r : Result X Failed) (failed : Failed) (before now after : Accepts) → r ≡ Err failed
    → after ≡ accepted now r → before.failures < 2 ^ 63 → now.failures ≡ before.failures
    → (after.clients ≡ now.clients) × (after.failures ≡ before.failures + 1)
none_comes (Ok c) failed before now after is e few same = absurd (cc)
none_comes (Err f) failed before now after is e few same = (
  ap (λ (x : Accepts). x.clients) e,
  ap (λ (x : Accepts). x.failures) e ∙ up_small now.failures (omega (arith, few, same)) ∙ ap (λ n. n + 1) same,
)

or_none : (fault : Option Fault) → or_later fault None ≡ fault
or_none None = refl
or_none (Some fault) = refl

-- the status if one more session follows
status_later : (a b : Option Fault) (status ended more : ℕ) → status ≡ status_at a → ended ≡ status_at b
    → ((status ≡ 0) × (more ≡ ended)) ⊎ ((status ≢ 0) × (more ≡ status)) → more ≡ status_at (or_later a b)
status_later None b status ended more s e (inl m) = m.1 ∙ e
status_later None b status ended more s e (inr m) = absurd (m.0 s)
status_later (Some fault) b status ended more s e (inl m) = absurd (fault_status fault (sym s ∙ m.0))
status_later (Some fault) b status ended more s e (inr m) = m.1 ∙ s

or_assoc : (a b c : Option Fault) → or_later (or_later a b) c ≡ or_later a (or_later b c)
or_assoc None b c = refl
or_assoc (Some fault) b c = refl

whole_of : {A : Type 0} (n : ℕ) (r : Result (Done A) StreamFault) → fault_of n r ≡ None → (done : Done A) × (r ≡ Ok done)
whole_of n (Ok done) e = (done, refl)
whole_of n (Err stop) e = absurd (cc)

stop_of : {A : Type 0} (n : ℕ) (r : Result (Done A) StreamFault) (fault : Fault) → fault_of n r ≡ Some fault
    → (stop : StreamFault) × (r ≡ Err stop) × (fault ≡ InSession n stop)
stop_of n (Ok done) fault e = absurd (cc)
stop_of n (Err stop) fault e = (stop, refl, cc)

module _ {A : Type 0} {first : Session} {by : Sourced} where
  same_number : (n m : ℕ) (s : ServedSession A first by) → n ≡ m → fault_of n s.result ≡ fault_of m s.result
  same_number n m s e = ap (λ k. fault_of k s.result) e

  -- the first fault if one more session follows
  first_more : (n : ℕ) (served : List (ServedSession A first by)) (s : ServedSession A first by)
      → first_fault n (served ++ s ∷ []) ≡ or_later (first_fault n served) (fault_of (n + length served) s.result)
  unfolding first_fault
  first_more n [] s = or_none (fault_of n s.result) ∙ same_number n (n + 0) s (omega arith)
  first_more n (x ∷ served) s =
      let number : n + 1 + length served ≡ n + length (x ∷ served) = omega arith in
      ap (or_later (fault_of n x.result)) (first_more (n + 1) served s)
      ∙ sym (or_assoc (fault_of n x.result) (first_fault (n + 1) served) (fault_of (n + 1 + length served) s.result))
      ∙ ap (or_later (first_fault n (x ∷ served))) (same_number (n + 1 + length served) (n + length (x ∷ served)) s number)

  -- before the first session none is served, and the status is 0
  pub none_so_far : AreSoFar A first by 0 0
  unfolding first_fault
  none_so_far = record { served = []; count_is = refl; status_is = refl }

  -- with one more session the status is unchanged, or that of this session if it was 0
  pub one_more : (count status ended more : ℕ) → AreSoFar A first by count status
      → (s : ServedSession A first by) × (ended ≡ status_at (fault_of (count + 1) s.result))
      → ((status ≡ 0) × (more ≡ ended)) ⊎ ((status ≢ 0) × (more ≡ status))
      → AreSoFar A first by (count + 1) more
  one_more count status ended more so_far (s, e) m =
      let number : 1 + length so_far.served ≡ count + 1 = omega (arith, so_far.count_is) in
      let e : ended ≡ status_at (fault_of (1 + length so_far.served) s.result) = e
      ∙ ap status_at (same_number (count + 1) (1 + length so_far.served) s (sym number)) in
      record {
        served = so_far.served ++ s ∷ [];
        count_is = length-append so_far.served (s ∷ []) ∙ ap (λ k. k + 1) so_far.count_is;
        status_is = status_later (first_fault 1 so_far.served) (fault_of (1 + length so_far.served) s.result) status ended more
            so_far.status_is e m
            ∙ ap status_at (sym (first_more 1 so_far.served s));
      }

  -- no session is at fault for an accept
  none_failed : (n : ℕ) (served : List (ServedSession A first by)) → accept_failures (first_fault n served) ≡ 0
  unfolding first_fault
  none_failed n [] = refl
  none_failed n (s ∷ more) = go s.result (none_failed (n + 1) more)
    where
      go : (r : Result (Done A) StreamFault) → accept_failures (first_fault (n + 1) more) ≡ 0
          → accept_failures (or_later (fault_of n r) (first_fault (n + 1) more)) ≡ 0
      go (Ok done) e = e
      go (Err stop) e = refl

  -- once all are served the sessions end with the status so far
  pub all_served : (at count status : ℕ) (before now : Accepts) → at ≡ count → AreSoFar A first by at status
      → HaveCome at before now → EndWith A first by count status (accepting before now)
  all_served at count status before now all so_far come = record {
    fault = first_fault 1 so_far.served;
    status_is = so_far.status_is;
    served = record {
      served = so_far.served;
      ends = inl (so_far.count_is ∙ all, refl);
      have = record {
        accepted = come.clients ∙ ap (λ k. before.clients + k) (sym so_far.count_is);
        failures = (let none = none_failed 1 so_far.served in let e = come.failures in omega (arith, none, e));
      };
    };
  }

  -- if no client comes they end with the status of that fault
  pub none_accepted : (at count status ended : ℕ) (before now after : Accepts) → AreSoFar A first by at status → at < count
      → ended ≡ status_of Accept → HaveCome at before now → (after.clients ≡ now.clients) × (after.failures ≡ before.failures + 1)
      → EndWith A first by count ended (accepting before after)
  none_accepted at count status ended before now after so_far less e come (same, failed) = record {
    fault = Some Accept;
    status_is = e;
    served = record {
      served = so_far.served;
      ends = inr (subst (λ k. k < count) (sym so_far.count_is) less, refl);
      have = record { accepted = same ∙ come.clients ∙ ap (λ k. before.clients + k) (sym so_far.count_is); failures = failed };
    };
  }

  -- if there is none, all sessions were served to their end
  pub none_stopped : (n : ℕ) (served : List (ServedSession A first by)) → first_fault n served ≡ None → AllByRecursion IsWhole served
  unfolding first_fault
  none_stopped n [] e = tt
  none_stopped n (s ∷ more) e = go (fault_of n s.result) refl (none_stopped (n + 1) more) e
    where
      go : (o : Option Fault) → fault_of n s.result ≡ o → (first_fault (n + 1) more ≡ None → AllByRecursion IsWhole more)
          → or_later o (first_fault (n + 1) more) ≡ None → IsWhole s × AllByRecursion IsWhole more
      go None is rest e = (whole_of n s.result is, rest e)
      go (Some fault) is rest e = absurd (cc)

  -- of sessions that are numbered from n on the first that stopped has this number
  record IsFirstFrom (n : ℕ) (served : List (ServedSession A first by)) (number : ℕ) (stop : StreamFault) : Type 0 where
    before : List (ServedSession A first by)
    stopped : ServedSession A first by
    after : List (ServedSession A first by)
    served_are : served ≡ before ++ stopped ∷ after
    number_is : number ≡ n + length before
    whole : AllByRecursion IsWhole before
    result_is : stopped.result ≡ Err stop

  stopped_first : (fault : Fault) (n : ℕ) (served : List (ServedSession A first by)) → first_fault n served ≡ Some fault
      → (number : ℕ) × (stop : StreamFault) × (fault ≡ InSession number stop) × IsFirstFrom n served number stop
  unfolding first_fault
  stopped_first fault n [] e = absurd (cc)
  stopped_first fault n (s ∷ more) e = go (fault_of n s.result) refl (stopped_first fault (n + 1) more) e
    where
      go : (o : Option Fault) → fault_of n s.result ≡ o
          → (first_fault (n + 1) more ≡ Some fault → (number : ℕ) × (stop : StreamFault) × (fault ≡ InSession number stop)
          × IsFirstFrom (n + 1) more number stop)
          → or_later o (first_fault (n + 1) more) ≡ Some fault
          → (number : ℕ) × (stop : StreamFault) × (fault ≡ InSession number stop) × IsFirstFrom n (s ∷ more) number stop
      go None is rest e =
          let later = rest e in
          let at = later.3 in (
            later.0,
            later.1,
            later.2,
            record {
              before = s ∷ at.before;
              stopped = at.stopped;
              after = at.after;
              served_are = ap (λ xs. s ∷ xs) at.served_are;
              number_is = at.number_is ∙ omega arith;
              whole = (whole_of n s.result is, at.whole);
              result_is = at.result_is;
            },
          )
      go (Some other) is rest e =
          let its = stop_of n s.result fault (is ∙ e) in (
            n,
            its.0,
            its.2,
            record {
              before = [];
              stopped = s;
              after = more;
              served_are = refl;
              number_is = omega arith;
              whole = tt;
              result_is = its.1;
            },
          )

  -- the fault of sessions is that of the first of them that stopped
  pub first_told : (served : List (ServedSession A first by)) (fault : Fault) → first_fault 1 served ≡ Some fault
      → IsOfFirstStopped served fault
  first_told served fault e =
      let at = stopped_first fault 1 served e in
      let f = at.3 in (
        at.0,
        at.1,
        at.2,
        record {
          before = f.before;
          stopped = f.stopped;
          after = f.after;
          served_are = f.served_are;
          number_is = f.number_is;
          whole = f.whole;
          result_is = f.result_is;
        },
      )

  -- the fault that sessions end with is that of one of them, or that no client could be accepted
  pub of_sessions : {clients : Accepting} (count : ℕ) (fault : Fault) → AreServed A first by count (Some fault) clients
      → (fault ≡ Accept) ⊎ ((number : ℕ) × (stop : StreamFault) × (fault ≡ InSession number stop))
  of_sessions count fault a =
      elim a.ends [
        | inl e ↦
            let at = stopped_first fault 1 a.served (sym e.1) in
            inr (at.0, at.1, at.2)
        | inr e ↦ inl (cc)
      ]

  -- what the end of sessions with this fault, or none, means
  pub tells : {clients : Accepting} (count status : ℕ) (fault : Option Fault) → status ≡ status_at fault
      → AreServed A first by count fault clients → TellsOfSessions A first by count fault status
  tells count status None e a =
      elim a.ends [
        | inl s ↦ record { served = a.served; which = inl (s.0, refl, e, none_stopped 1 a.served (sym s.1)) }
        | inr s ↦ absurd (cc)
      ]
  tells count status (Some fault) e a =
      elim a.ends [
        | inl s ↦
            let at = first_told a.served fault (sym s.1) in
            record {
              served = a.served;
              which = inr (inl (s.0, at.0, at.1, ap Some at.2, e ∙ ap status_of at.2, at.3));
            }
        | inr s ↦
            let is : fault ≡ Accept = cc in
            record { served = a.served; which = inr (inr (s.0, s.1, e ∙ ap status_of is)) }
      ]

  -- a session that was served to its end met it once, and neither side of it failed
  pub met_its_end : (counted : ℕ) (t : Trace) (done : Done A) → IsSession first by counted t (Ok done) → HasMetItsEnd t
  met_its_end counted t done s =
      let told = s.run.counted in
      record {
        ends = told.ends ∙ ap (λ (p : Pulls). p.ends + 1) s.first_pull;
        reads = told.read ∙ ap (λ (p : Pulls). p.failures + 0) s.first_pull;
        writes = told.write ∙ ap (λ (p : Pushes). p.failures + 0) s.first_push;
      }

  -- one that a failed read or write ended counts that one failure
  pub failed_to_read : (counted : ℕ) (t : Trace) → IsSession {A = A} first by counted t (Err Read) → t.source.failures ≡ 1
  failed_to_read counted t s =
      let told = s.run.counted in
      told.read ∙ ap (λ (p : Pulls). p.failures + 1) s.first_pull

  pub failed_to_write : (counted : ℕ) (t : Trace) → IsSession {A = A} first by counted t (Err Write) → t.sink.failures ≡ 1
  failed_to_write counted t s =
      let told = s.run.counted in
      told.write ∙ ap (λ (p : Pushes). p.failures + 1) s.first_push

-- what the status of sessions means, whatever they end with
pub sessions_tell : (A : Type 0) (first : Session) (by : Sourced) (count status : ℕ) (clients : Accepting)
    → EndWith A first by count status clients → (fault : Option Fault) × TellsOfSessions A first by count fault status
sessions_tell A first by count status clients e = (e.fault, tells count status e.fault e.status_is e.served)
