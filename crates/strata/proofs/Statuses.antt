-- What the exit statuses of the program mean. `ends_for_words` and `ends_for_images` say what 2 and 3 mean: each goes through everything
-- that can end a command, and rules out what has another status. `has_done`, `has_stopped` and `has_ended` put a run together by the status
-- of its last step.
use Rattle.std.proofs.Common.{◌≡◌, ◌≢◌, ◌∙◌, sym, ap, subst, ℕ, ◌≤◌, ◌⊎◌, inl, inr, List, length, All, Option, Some, None, refl, arith}
use Rattle.romfs_format.specs.declared.rule.Profile.{Profile}
use Rattle.romfs_format.specs.Rules.{IsSound}
use Rattle.serve_loop.specs.declared.stream_fault.StreamFault.TheVariants as stops
use Rattle.strata_words.specs.declared.options.Line.{Line}
use Rattle.strata_words.specs.declared.options.LineFault.{LineFault}
use Rattle.strata_words.specs.declared.options.LineFault.TheVariants as lines
use Rattle.strata_words.specs.declared.options.Verb.{Verb}
use Rattle.strata_words.specs.declared.options.Verb.TheVariants as verbs
use Rattle.strata_words.specs.CommandLine.{IsRefused, IsMisnumbered, IsMissealed, IsCrossed, IsLineFault}
use Rattle.stack_prepare.specs.Layers.{AreRefused}
use Rattle.devices.specs.States.{Devices}
use Rattle.stack_prepare.specs.declared.refusal.Refusal.{Refusal}
use Rattle.stack_prepare.specs.declared.refusal.Refusal.TheVariants as refusals
use Rattle.stack_prepare.proofs.Refusals.{not_few, none_broken}
use Rattle.strata.specs.declared.faults.Fault.{Fault}
use Rattle.strata.specs.declared.faults.Fault.TheVariants.{RequestsFile, RepliesFile, BalancesFile, Bind, Accept, Images, InSession, Stopped}
use Rattle.strata_images.specs.declared.faults.ImagesFault.{ImagesFault}
use Rattle.strata_images.specs.declared.faults.ImagesFault.TheVariants as faults
use Rattle.strata_images.specs.Faults.{status_of as images_status}
use Rattle.strata_images.specs.Images.{AreNotStacked, profile_of, refusal_told_of}
use Rattle.strata.specs.Faults.{IsOfImages, status_of, out_of_memory, line_told_of}
use Rattle.strata.specs.Ending.{HasUnreadImage, IsStoppedOver, IsDone, EndsInFault, EndsWith, IsOver, IsOverWith, IsRunOf}
use Rattle.strata.specs.Laws.{AreBad, AreFar, AreToBlame, AreUnsealed}
use Rattle.strata.specs.Sessions.{status_at}
use Rattle.strata.proofs.Blames.{stop_of}
use Rattle.strata.proofs.Ended.{IsStatus, fault_range, fault_status}
use Rattle.strata.proofs.InTurn.{of_sessions}

-- a program that stopped has a status of 1 to 5
pub ends_in_range : (A : Type 0) (words : List (List ℕ)) (n : ℕ) (old new : Devices) → EndsWith A words n old new → (1 ≤ n) × (n ≤ 5)
ends_in_range A words n old new e = subst IsStatus (sym e.status_is) (fault_range e.fault)

-- a fault that is not of words has another status than 2
told_as : (fault other : Fault) → fault ≡ other → status_of other ≢ 2 → status_of fault ≢ 2
told_as fault other f n e = n (sym (ap status_of f) ∙ e)

one_is_other : ◌≢◌ {A = ℕ} 1 2
one_is_other e = absurd (omega arith)

-- the status 0 is not that of wrong words
pub zero_is_other : ◌≢◌ {A = ℕ} 0 2
zero_is_other e = absurd (omega arith)

three_is_other : ◌≢◌ {A = ℕ} 3 2
three_is_other e = absurd (omega arith)

five_is_other : ◌≢◌ {A = ℕ} 5 2
five_is_other e = absurd (omega arith)

two_is_other : (fault : ImagesFault) → images_status fault ≢ 2
two_is_other (faults.Unread image) = one_is_other
two_is_other (faults.Unsealed image) = three_is_other
two_is_other (faults.Far image) = three_is_other
two_is_other (faults.Broken image fault) = three_is_other
two_is_other (faults.Layers count) = three_is_other
two_is_other faults.Write = one_is_other
two_is_other faults.Memory = five_is_other

-- a fault of images is not one of words
of_images : (Is : ImagesFault → Type 0) (fault : Fault) → IsOfImages Is fault → status_of fault ≢ 2
of_images Is fault f = told_as fault (Images f.0) f.1 (two_is_other f.0)

-- the work of a command is never stopped for its words
work_other : (A : Type 0) (verb : Verb) (line : Line) (images : List (List ℕ)) (fault : Fault) (old new : Devices)
    → IsStoppedOver A verb line images fault old new → status_of fault ≢ 2
work_other A verbs.Serve line images fault old new s =
    elim s [
      | inl f ↦ elim f.which [
        | inl w ↦ told_as fault RequestsFile w.0 one_is_other
        | inr (inl w) ↦ told_as fault RepliesFile w.0 one_is_other
        | inr (inr w) ↦ told_as fault BalancesFile w.0 one_is_other
      ]
      | inr (inl r) ↦ of_images (AreNotStacked (profile_of line) images) fault r.0
      | inr (inr (inl p)) ↦ told_as fault (Stopped p.stop) p.told (stop_of p.stop).words
      | inr (inr (inr b)) ↦ elim b.told [
        | inl w ↦ told_as fault (Stopped stops.Write) w one_is_other
        | inr w ↦ told_as fault out_of_memory w five_is_other
      ]
    ]
work_other A verbs.Socket line images fault old new s =
    elim s.1 [
      | inl r ↦ of_images (AreNotStacked (profile_of line) images) fault r
      | inr (inl b) ↦ told_as fault Bind b.told one_is_other
      | inr (inr served) ↦ elim (of_sessions {A = A} line.sessions fault served.served) [
        | inl accept ↦ told_as fault Accept accept one_is_other
        | inr s ↦ told_as fault (InSession s.0 s.1) s.2 (stop_of s.1).words
      ]
    ]
work_other A verbs.Check line images fault old new s = of_images _ fault s.1
work_other A verbs.List line images fault old new s = of_images _ fault s.1

-- of the two faults of words lack of memory has another status
misread : (words : List (List ℕ)) (line : LineFault) → IsLineFault words line → status_of (line_told_of line) ≡ 2 → IsRefused words
    ⊎ (IsMisnumbered words ⊎ (IsCrossed words ⊎ IsMissealed words))
misread words (lines.Usage text) is e = is
misread words lines.Memory is e = absurd (five_is_other e)

-- with the status 2 the words are no command, or one with a wrong number or a file beside the
-- device, and no device was touched
pub ends_for_words : (A : Type 0) (words : List (List ℕ)) (old new : Devices) → EndsWith A words 2 old new
    → (IsRefused words ⊎ (IsMisnumbered words ⊎ (IsCrossed words ⊎ IsMissealed words))) × (new ≡ old)
ends_for_words A words old new e =
    let two : status_of e.fault ≡ 2 = sym e.status_is in
    elim e.stopped [
      | inl early ↦ elim early.which [
        | inl taken ↦ (misread words taken.line taken.is (sym (ap status_of taken.told) ∙ two), early.kept)
        | inr unread ↦ absurd (of_images _ e.fault unread.unread two)
      ]
      | inr off ↦ absurd (work_other A off.line.verb off.line off.images e.fault old new off.stopped two)
    ]

-- ---- status 3

one_is_less : ◌≢◌ {A = ℕ} 1 3
one_is_less e = absurd (omega arith)

two_is_less : ◌≢◌ {A = ℕ} 2 3
two_is_less e = absurd (omega arith)

five_is_more : ◌≢◌ {A = ℕ} 5 3
five_is_more e = absurd (omega arith)

three_of : (fault other : Fault) → fault ≡ other → status_of fault ≡ 3 → status_of other ≡ 3
three_of fault other f e = sym (ap status_of f) ∙ e

refused_bad : (profile : Profile) (images : List (List ℕ)) (refusal : Refusal) → AreRefused profile images refusal
    → images_status (refusal_told_of refusal) ≡ 3 → AreBad profile images
refused_bad profile images (refusals.Layers count) r e = inl (not_few profile images count r)
refused_bad profile images (refusals.Layer layer fault) r e =
    (let b = r.1 in inr (λ s. none_broken profile b.below b.above b.bytes fault.rule fault.place
    (subst (All (IsSound profile)) b.images_are s) b.broken))
refused_bad profile images refusals.Memory r e = absurd (five_is_more e)

-- images that are not stacked are bad, if that is their fault
unstacked_bad : (profile : Profile) (images : List (List ℕ)) (fault : Fault) → IsOfImages (AreNotStacked profile images) fault
    → status_of fault ≡ 3 → AreBad profile images
unstacked_bad profile images fault f e =
    refused_bad profile images f.2.refusal f.2.refused (sym (ap status_of (f.1 ∙ ap Images f.2.told)) ∙ e)

work_bad : (A : Type 0) (verb : Verb) (line : Line) (images : List (List ℕ)) (fault : Fault) (old new : Devices)
    → IsStoppedOver A verb line images fault old new → status_of fault ≡ 3 → AreBad (profile_of line) images
work_bad A verbs.Serve line images fault old new s e =
    elim s [
      | inl f ↦ elim f.which [
        | inl w ↦ absurd (one_is_less (three_of fault RequestsFile w.0 e))
        | inr (inl w) ↦ absurd (one_is_less (three_of fault RepliesFile w.0 e))
        | inr (inr w) ↦ absurd (one_is_less (three_of fault BalancesFile w.0 e))
      ]
      | inr (inl r) ↦ unstacked_bad (profile_of line) images fault r.0 e
      | inr (inr (inl p)) ↦ absurd ((stop_of p.stop).images (three_of fault (Stopped p.stop) p.told e))
      | inr (inr (inr b)) ↦ elim b.told [
        | inl w ↦ absurd (one_is_less (three_of fault (Stopped stops.Write) w e))
        | inr w ↦ absurd (five_is_more (three_of fault out_of_memory w e))
      ]
    ]
work_bad A verbs.Socket line images fault old new s e =
    elim s.1 [
      | inl r ↦ unstacked_bad (profile_of line) images fault r e
      | inr (inl b) ↦ absurd (one_is_less (three_of fault Bind b.told e))
      | inr (inr served) ↦ elim (of_sessions {A = A} line.sessions fault served.served) [
        | inl accept ↦ absurd (one_is_less (three_of fault Accept accept e))
        | inr s ↦ absurd ((stop_of s.1).images (three_of fault (InSession s.0 s.1) s.2 e))
      ]
    ]
work_bad A verbs.Check line images fault old new s e =
    let f = s.1 in
    let told : (other : ImagesFault) → f.0 ≡ other → images_status other ≡ 3 =
    λ other same. sym (ap status_of (f.1 ∙ ap Images same)) ∙ e in
    elim f.2 [
      | inl (inl g, kept) ↦ elim g [
        | inl r ↦ elim r.refused [
          | inl b ↦ inr (λ sound. none_broken (profile_of line) r.before r.after r.bytes b.0.rule b.0.place
              (subst (All (IsSound (profile_of line))) r.images_are sound) b.2)
          | inr m ↦ absurd (five_is_more (told faults.Memory m))
        ]
        | inr m ↦ absurd (five_is_more (told faults.Memory m))
      ]
      | inl (inr many, kept) ↦ inl (not_few (profile_of line) images (length images) (refl, inr many.many))
      | inr l ↦ absurd (one_is_less (told faults.Write l.told))
    ]
work_bad A verbs.List line images fault old new s e =
    let f = s.1 in
    elim f.2 [
      | inl (inl r, kept) ↦ unstacked_bad (profile_of line) images fault (f.0, f.1, r) e
      | inl (inr m, kept) ↦ absurd (five_is_more (three_of fault (Images faults.Memory) (f.1 ∙ ap Images m) e))
      | inr l ↦ absurd (one_is_less (three_of fault (Images faults.Write) (f.1 ∙ ap Images l.told) e))
    ]

words_less : (line : LineFault) → status_of (line_told_of line) ≢ 3
words_less (lines.Usage text) e = two_is_less e
words_less lines.Memory e = five_is_more e

-- images that were not read have another status, unless one is not as sealed or its trailer ends too far
unread_less : {words : List (List ℕ)} (fault : Fault) → HasUnreadImage words fault → status_of fault ≡ 3
    → AreUnsealed words fault ⊎ AreFar words fault
unread_less fault unread e =
    let f = unread.unread in
    elim f.2 [
      | inl u ↦ elim u.2 [
        | inl gone ↦ absurd (one_is_less (three_of fault (Images (faults.Unread u.0)) (f.1 ∙ ap Images gone) e))
        | inr (inl unsealed) ↦ inl (record {
          line = unread.line;
          line_is = unread.line_is;
          image = u.0;
          named = u.1;
          digested = unsealed.1;
          told = f.1 ∙ ap Images unsealed.0;
        })
        | inr (inr far) ↦ inr (record {
          line = unread.line;
          line_is = unread.line_is;
          image = u.0;
          named = u.1;
          far = far.1;
          told = f.1 ∙ ap Images far.0;
        })
      ]
      | inr m ↦ absurd (five_is_more (three_of fault (Images faults.Memory) (f.1 ∙ ap Images m) e))
    ]

-- with the status 3 the images are to blame
pub ends_for_images : (A : Type 0) (words : List (List ℕ)) (old new : Devices) (e : EndsWith A words 3 old new)
    → AreToBlame words ⊎ ((AreUnsealed words e.fault ⊎ AreFar words e.fault) × (new ≡ old))
ends_for_images A words old new e =
    let three : status_of e.fault ≡ 3 = sym e.status_is in
    elim e.stopped [
      | inl early ↦ elim early.which [
        | inl taken ↦ absurd (words_less taken.line (three_of e.fault (line_told_of taken.line) taken.told three))
        | inr unread ↦ inr (unread_less e.fault unread three, early.kept)
      ]
      | inr off ↦ inl (record {
        line = off.line;
        images = off.images;
        line_is = off.line_is;
        read = off.read;
        bad = work_bad A off.line.verb off.line off.images e.fault old new off.stopped three;
      })
    ]

-- ---- an entire run

-- a program that did what its words say is a run with the status 0
pub has_done : (A : Type 0) (words : List (List ℕ)) (old new : Devices) → IsDone A words old new → IsRunOf A words 0 old new
has_done A words old new d = record { done = λ _. d; stopped = λ n. absurd (n refl); untouched = λ e. absurd (zero_is_other e) }

-- a program that ended in a fault is a run with the fault's status
pub has_stopped : (A : Type 0) (words : List (List ℕ)) (status : ℕ) (fault : Fault) (old new : Devices) → EndsInFault A words fault old new
    → status ≡ status_of fault → IsRunOf A words status old new
has_stopped A words status fault old new s e =
    let ends : EndsWith A words status old new = record { fault = fault; status_is = e; stopped = s } in
    record {
      done = λ z. absurd (fault_status fault (sym e ∙ z));
      stopped = λ _. ends;
      untouched = λ two. (ends_for_words A words old new (subst (λ n. EndsWith A words n old new) two ends)).1;
    }

-- if it did all its steps, by what its sessions end with
pub has_ended : (A : Type 0) (words : List (List ℕ)) (status : ℕ) (old new : Devices) → IsOverWith A words status old new
    → IsRunOf A words status old new
has_ended A words status old new r = go r.fault r.status_is r.over
  where
    go : (fault : Option Fault) → status ≡ status_at fault → IsOver A words fault old new → IsRunOf A words status old new
    go None e d = subst (λ n. IsRunOf A words n old new) (sym e) (has_done A words old new d)
    go (Some fault) e s = has_stopped A words status fault old new s.1 e
