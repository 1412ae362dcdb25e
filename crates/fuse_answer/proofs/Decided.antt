-- The answers to READDIR and READDIRPLUS, or why they are refused: `rows_decided` and `cut_decided` are the main lemmas. Both find the
-- node's place from its kind (`at_directory`), and take from `Listed` that a listing has the definitions' rows.
use Rattle.std.proofs.Common.{◌≡◌, ◌∙◌, sym, ap, ℕ, ◌≤◌, [], ◌∷◌, Bool, true, false, cond, Option, Some, None, Result, Ok, Err, MatchOption, MatchResult, refl, arith}
use Rattle.std.specs.Prelude.{nat_lt, not, ◌||◌}
use Rattle.std.proofs.lemmas.Bool.{le-ltb}
use Rattle.romfs_format.specs.declared.head.Kind.{Kind}
use Rattle.romfs_format.specs.declared.head.Kind.TheVariants.{Directory}
use Rattle.fuse_wire.specs.declared.errno.Errno.{Errno}
use Rattle.fuse_wire.specs.declared.errno.Errno.TheVariants.{EINVAL, ENOTDIR, ESTALE}
use Rattle.fuse_wire.specs.declared.limits.TheConstants.{MAX_DATA_SIZE}
use Rattle.stack_model.specs.Attributes.{is_directory, is_directory_at, kind_at}
use Rattle.stack_model.specs.Numbers.{Place, node_of}
use Rattle.stack_model.specs.Listing.{Stacked}
use Rattle.reply_model.specs.declared.session.Agreement.{Agreement}
use Rattle.reply_model.specs.Services.{refuse_if}
use Rattle.reply_model.specs.Refusals.{first_refusal, refused_at}
use Rattle.reply_model.specs.Rows.{is_too_small, rows_after, dirent_of, direntplus_of}
use Rattle.fuse_answer.specs.declared.listing.Listing.{Listing}
use Rattle.fuse_answer.specs.declared.outcome.Answer.{Answer}
use Rattle.fuse_answer.specs.declared.outcome.Answer.TheVariants.{Rows}
use Rattle.fuse_answer.specs.Answers.{DecidesAt, IsAnswerAt, TellsKind}
use Rattle.fuse_answer.specs.Listings.{AreListed, IsWhole, is_cut_short, lines_answered, lines_given, listed_moves, listing_op}
use Rattle.fuse_answer.proofs.Listed.{cut_same, data_same, moves_same, plain, with_entries}

abbrev told_kind : Kind → Result Kind Errno
told_kind k = Ok k

-- the two refusals of a listing, in order
free : (directory large small : Bool) → directory ≡ true → large ≡ false → small ≡ false
    → first_refusal (refuse_if (not directory) ENOTDIR ∷ refuse_if (large || small) EINVAL ∷ []) ≡ None
free directory large small d l s = rw (d, l, s) refl

cut : (directory large small : Bool) → directory ≡ true → small ≡ true
    → first_refusal (refuse_if (not directory) ENOTDIR ∷ refuse_if (large || small) EINVAL ∷ []) ≡ Some EINVAL
cut directory large small d s = rw (d, s) (either large)
  where
    either : (b : Bool) → first_refusal (None ∷ refuse_if (b || true) EINVAL ∷ []) ≡ Some EINVAL
    either true = refl
    either false = refl

-- what a listing gives, by whether its rows come with entries
gives_by_entries : {A : Type 0} (l : Listing A) (b : Bool) → l.with_entries ≡ b
    → listed_moves l ≡ cond b (lines_given (lines_answered l)) []
gives_by_entries l b is = ap (λ b. cond b (lines_given (lines_answered l)) []) is

module _ {A : Type 0} (stack : Stacked) (agreed : Agreement) (n offset size : ℕ) where
  whole : (plus : Bool) (l : Listing A) → AreListed stack n offset size plus l → size ≤ MAX_DATA_SIZE → IsWhole l
  whole plus l listed few = record {
    within = (let e = listed.from_is in omega arith);
    small = (let e = listed.room_is in omega arith);
  }

  rows_at_place : (plus : Bool) (l : Listing A) (p : Place) → node_of stack.entries n ≡ Some p → is_directory_at stack.layers p ≡ true
      → nat_lt MAX_DATA_SIZE size ≡ false → size ≤ MAX_DATA_SIZE → AreListed stack n offset size plus l → is_cut_short l ≡ false
      → IsAnswerAt stack agreed (listing_op plus offset size) p (Rows l)
  rows_at_place false l p is directory large small listed whole_rows =
      let form = dirent_of stack in
      let good = plain stack in
      let bytes = data_same stack false form good n offset size p is directory l listed in
      record {
        taken = free (is_directory_at stack.layers p) (nat_lt MAX_DATA_SIZE size)
            (is_too_small form size (rows_after stack.entries p offset)) directory large
            (sym (cut_same stack false form good n offset size p is directory l listed) ∙ whole_rows);
        data_is = bytes;
        reads_are = λ sources. refl;
        moves_are = gives_by_entries l false listed.entries_are;
        sized = whole false l listed small;
      }
  rows_at_place true l p is directory large small listed whole_rows =
      let form = direntplus_of stack in
      let good = with_entries stack in
      let bytes = data_same stack true form good n offset size p is directory l listed in
      record {
        taken = free (is_directory_at stack.layers p) (nat_lt MAX_DATA_SIZE size)
            (is_too_small form size (rows_after stack.entries p offset)) directory large
            (sym (cut_same stack true form good n offset size p is directory l listed) ∙ whole_rows);
        data_is = bytes;
        reads_are = λ sources. refl;
        moves_are = gives_by_entries l true listed.entries_are
            ∙ moves_same stack true form good n offset size p is directory l listed;
        sized = whole true l listed small;
      }

  cut_at_place : (plus : Bool) (l : Listing A) (p : Place) → node_of stack.entries n ≡ Some p → is_directory_at stack.layers p ≡ true
      → AreListed stack n offset size plus l → is_cut_short l ≡ true
      → refused_at stack agreed (listing_op plus offset size) p ≡ Some EINVAL
  cut_at_place false l p is directory listed short =
      let form = dirent_of stack in
      cut (is_directory_at stack.layers p) (nat_lt MAX_DATA_SIZE size) (is_too_small form size (rows_after stack.entries p offset))
      directory
      (sym (cut_same stack false form (plain stack) n offset size p is directory l listed) ∙ short)
  cut_at_place true l p is directory listed short =
      let form = direntplus_of stack in
      cut (is_directory_at stack.layers p) (nat_lt MAX_DATA_SIZE size) (is_too_small form size (rows_after stack.entries p offset))
      directory
      (sym (cut_same stack true form (with_entries stack) n offset size p is directory l listed) ∙ short)

  -- the decision at a directory
  at_directory : (plus : Bool) (r : Result (Answer A) Errno) → TellsKind stack n (told_kind Directory)
      → ((p : Place) → node_of stack.entries n ≡ Some p → is_directory_at stack.layers p ≡ true
      → MatchResult r (IsAnswerAt stack agreed (listing_op plus offset size) p) (λ errno. refused_at stack agreed
      (listing_op plus offset size) p ≡ Some errno))
      → DecidesAt stack agreed n (listing_op plus offset size) r
  at_directory plus r kind each = go (node_of stack.entries n) refl kind
    where
      go : (o : Option Place) → node_of stack.entries n ≡ o
          → MatchOption o (told_kind Directory ≡ Err ESTALE) (λ p. told_kind Directory ≡ Ok (kind_at stack.layers p))
          → MatchOption o (r ≡ Err ESTALE) (λ p. MatchResult r (IsAnswerAt stack agreed (listing_op plus offset size) p)
          (λ errno. refused_at stack agreed (listing_op plus offset size) p ≡ Some errno))
      go None is kind = absurd (cc)
      go (Some p) is kind = let kind_is : kind_at stack.layers p ≡ Directory = cc in each p is (ap is_directory kind_is)

  -- a directory's rows are answered if one fits or none is left, and the size is not too large
  pub rows_decided : (plus : Bool) (l : Listing A) → TellsKind stack n (told_kind Directory) → size ≤ MAX_DATA_SIZE
      → AreListed stack n offset size plus l → is_cut_short l ≡ false
      → DecidesAt stack agreed n (listing_op plus offset size) (Ok (Rows l))
  rows_decided plus l kind small listed whole_rows =
      at_directory plus (Ok (Rows l)) kind
      (λ p is directory. rows_at_place plus l p is directory (le-ltb MAX_DATA_SIZE size small) small listed whole_rows)

  -- if there is a row and not even one fits, the request is refused with EINVAL
  pub cut_decided : (plus : Bool) (l : Listing A) → TellsKind stack n (told_kind Directory)
      → AreListed stack n offset size plus l → is_cut_short l ≡ true
      → DecidesAt {A = A} stack agreed n (listing_op plus offset size) (Err EINVAL)
  cut_decided plus l kind listed short =
      at_directory plus (Err EINVAL) kind (λ p is directory. cut_at_place plus l p is directory listed short)
