-- The answer to LOOKUP if its name finds a node in a directory: `found_below` is the main lemma. The node that the definitions find has a
-- number (`numbered_found`), so the entry with that number is its entry (`entry_at`).
use Rattle.std.proofs.Common.{◌≡◌, ◌∙◌, sym, ap, ℕ, List, [], ◌∷◌, is_none, length, Bool, true, false, Option, Some, None, Result, Ok, Err, refl, subst, MatchOption, MatchResult, nat_lt, if◌then◌else◌}
use Rattle.std.specs.Prelude.{◌&&◌, not}
use Rattle.std.specs.Option.{option_map}
use Rattle.romfs_format.specs.declared.head.Kind.{Kind}
use Rattle.romfs_format.specs.declared.head.Kind.TheVariants.{Directory}
use Rattle.fuse_wire.specs.declared.errno.Errno.{Errno}
use Rattle.fuse_wire.specs.declared.errno.Errno.TheVariants.{ENAMETOOLONG, ENOENT, ESTALE}
use Rattle.stack_model.specs.declared.attr.Attr.{Attr}
use Rattle.fuse_wire.specs.declared.limits.TheConstants.{MAX_NAME_SIZE}
use Rattle.fuse_wire.specs.Requests.{lookup}
use Rattle.stack_model.specs.Attributes.{is_directory, is_directory_at, kind_at, attr_of}
use Rattle.stack_model.specs.Numbers.{Place, number, node_of, parent, child}
use Rattle.stack_model.specs.Listing.{Stacked}
use Rattle.node_reader.specs.Readers.{attr_at}
use Rattle.reply_model.specs.declared.session.Agreement.{Agreement}
use Rattle.reply_model.specs.Lookups.{is_itself, is_parent, looked_up}
use Rattle.reply_model.specs.Services.{refuse_if, unless_directory}
use Rattle.reply_model.specs.Refusals.{first_refusal, refused_at}
use Rattle.fuse_answer.specs.declared.outcome.Answer.{Answer}
use Rattle.fuse_answer.specs.declared.outcome.Answer.TheVariants.{Entry}
use Rattle.fuse_answer.specs.Answers.{DecidesAt, FindsBelow, IsAnswerAt, TellsEntry, TellsKind}
use Rattle.fuse_answer.proofs.Numbered.{IsNumbered, numbered_child, numbered_node, numbered_parent}

numbered_found : (stack : Stacked) (export : Bool) (n : ℕ) (p : Place) (name : List ℕ) (c : Place) → node_of stack.entries n ≡ Some p
    → looked_up stack.entries export p name ≡ Some c → IsNumbered stack.entries c
numbered_found stack export n p name c is found = go (is_itself export name) (is_parent export name) found
  where
    go : (itself above : Bool) → (if itself then Some p else if above then Some (parent stack.entries p) else child stack.entries p name)
        ≡ Some c → IsNumbered stack.entries c
    go true above found = let same : p ≡ c = cc in subst (IsNumbered stack.entries) same (numbered_node stack.entries n p is)
    go false true found = let same : parent stack.entries p ≡ c = cc in
        subst (IsNumbered stack.entries) same (numbered_parent stack.entries n p is)
    go false false found = numbered_child stack.entries p name c found

abbrev told_kind : Kind → Result Kind Errno
told_kind k = Ok k

free : (k : Kind) (itself long lasting : Bool) (o : Option Place) (c : Place) → k ≡ Directory → long ≡ false → o ≡ Some c
    → first_refusal ((if itself then None else unless_directory k) ∷ (if long then Some ENAMETOOLONG else refuse_if
    (is_none o && not lasting) ENOENT) ∷ []) ≡ None
free k itself long lasting o c kind short found = rw (kind, short, found) (either itself)
  where
    either : (b : Bool) → first_refusal ((if b then None else None) ∷ None ∷ []) ≡ None
    either true = refl
    either false = refl

module _ {A : Type 0} (stack : Stacked) (agreed : Agreement) (n : ℕ) (name : List ℕ) (f : ℕ) (r : Result (Answer A) Errno) where
  entry_at : (p c : Place) → kind_at stack.layers p ≡ Directory → is_itself agreed.export name ≡ false → nat_lt MAX_NAME_SIZE (length name)
      ≡ false
      → looked_up stack.entries agreed.export p name ≡ Some c → IsAnswerAt {A = A} stack agreed (lookup name) p
      (Entry (attr_of stack c))
  entry_at p c kind other short found = record {
    taken = free (kind_at stack.layers p) (is_itself agreed.export name) (nat_lt MAX_NAME_SIZE (length name)) agreed.lasting
        (looked_up stack.entries agreed.export p name) c kind short found;
    data_is = rw found refl;
    reads_are = λ sources. refl;
    sized = tt;
    moves_are = rw found refl;
  }

  -- a name that finds a number below a directory is answered the entry of that number
  pub found_below : TellsKind stack n (Ok Directory) → is_itself agreed.export name ≡ false → nat_lt MAX_NAME_SIZE (length name) ≡ false
      → FindsBelow stack agreed.export n name (Some f) → TellsEntry stack f r → DecidesAt stack agreed n (lookup name) r
  found_below kind other short finds entry = go (node_of stack.entries n) refl kind finds
    where
      done : (p c : Place) → kind_at stack.layers p ≡ Directory → looked_up stack.entries agreed.export p name ≡ Some c
          → r ≡ Ok (Entry (attr_of stack c))
          → MatchResult r (IsAnswerAt stack agreed (lookup name) p) (λ errno. refused_at stack agreed (lookup name) p
          ≡ Some errno)
      done p c kind found is =
          subst (λ r. MatchResult r (IsAnswerAt stack agreed (lookup name) p) (λ errno. refused_at stack agreed
          (lookup name) p ≡ Some errno)) (sym is)
          (entry_at p c kind other short found)

      told : (c : Place) → IsNumbered stack.entries c → number stack.entries c ≡ f
          → r ≡ Ok (Entry (attr_of stack c))
      told c numbered same =
          let P : Option Attr → Type 0 = λ o. MatchOption o (r ≡ Err ENOENT) (λ attr. r ≡ Ok (Entry attr)) in
          let held : attr_at stack f ≡ Some (attr_of stack c) =
          ap (attr_at stack) (sym same) ∙ ap (λ o. option_map (attr_of stack) o) numbered in
          subst P held entry

      below : (p : Place) (o : Option Place) → node_of stack.entries n ≡ Some p → kind_at stack.layers p ≡ Directory
          → looked_up stack.entries agreed.export p name ≡ o → Some f ≡ option_map (number stack.entries) o
          → MatchResult r (IsAnswerAt stack agreed (lookup name) p) (λ errno. refused_at stack agreed (lookup name) p
          ≡ Some errno)
      below p None is kind found same = absurd (cc)
      below p (Some c) is kind found same =
          let number_same : number stack.entries c ≡ f = cc in
          done p c kind found (told c (numbered_found stack agreed.export n p name c is found) number_same)

      go : (o : Option Place) → node_of stack.entries n ≡ o
          → MatchOption o (told_kind Directory ≡ Err ESTALE) (λ p. told_kind Directory ≡ Ok (kind_at stack.layers p))
          → MatchOption o (Some f ≡ None) (λ p. is_directory_at stack.layers p ≡ true → is_itself agreed.export name ≡ false
          → Some f ≡ option_map (number stack.entries) (looked_up stack.entries agreed.export p name))
          → MatchOption o (r ≡ Err ESTALE) (λ p. MatchResult r (IsAnswerAt stack agreed (lookup name) p)
          (λ errno. refused_at stack agreed (lookup name) p ≡ Some errno))
      go None is kind finds = absurd (cc)
      go (Some p) is kind finds =
          let kind_is : kind_at stack.layers p ≡ Directory = cc in
          below p (looked_up stack.entries agreed.export p name) is kind_is refl (finds (ap is_directory kind_is) other)
