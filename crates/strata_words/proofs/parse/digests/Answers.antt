use Rattle.std.specs.Borrow.{Bor}
use Rattle.std.proofs.Common.{◌≡◌, ◌∙◌, sym, ap, codes, inr, length, option_map, List, Option, Some, None}
use Rattle.std.proofs.lemmas.List.{length-map}
use Rattle.clap.specs.Walk.{Text, all_of, texts}
use Rattle.clap.specs.Words.{found_of}
use Rattle.strata_words.specs.CommandLine.{rows_in}
use Rattle.strata_words.proofs.Parsed.{all_read, digests_are, miscounted, none_given}
use Rattle.strata_words.proofs.parse.digests.Goals as goal

-- the texts that are held, as texts
abbrev texts_of : Option (Bor (List (Bor Text))) → Option (List Text)
texts_of o = option_map (λ s. texts s.now) o

none_are : (c : goal.In_ok-no_digests-in-None) → all_of (codes "digest") (rows_in c.args.found.now) ≡ None
none_are c = sym (digests_are (found_of c.args.found.now) c.get_strs.result c.get_strs.ensures) ∙ ap texts_of c.in-None.is

pub returns-in_ok-no_digests-in-None-clause-ok : goal.returns-in_ok-no_digests-in-None-clause-ok
returns-in_ok-no_digests-in-None-clause-ok c =
    c.in_ok-no_digests-in-None.ensures ∙ (none_given c.args.count (all_of (codes "digest") (rows_in c.args.found.now)) (none_are c)).0

pub returns-in_ok-no_digests-in-None-clause-given : goal.returns-in_ok-no_digests-in-None-clause-given
returns-in_ok-no_digests-in-None-clause-given c =
    (none_given c.args.count (all_of (codes "digest") (rows_in c.args.found.now)) (none_are c)).1

some_are : (c : goal.After-digests_named) → all_of (codes "digest") (rows_in c.args.found.now) ≡ Some (texts c.in-Some.texts.now)
some_are c = sym (digests_are (found_of c.args.found.now) c.get_strs.result c.get_strs.ensures) ∙ ap texts_of c.in-Some.is

as_many : (c : goal.After-digests_named) → length (texts c.in-Some.texts.now) ≡ c.args.count
as_many c = length-map {A = Bor Text} c.in-Some.texts.now (λ s. s.now) ∙ c.if-texts-count.true

pub returns-in-Some-clause-ok : goal.returns-in-Some-clause-ok
returns-in-Some-clause-ok c =
    (all_read (λ digests. digests.items) c.args.count (all_of (codes "digest") (rows_in c.args.found.now)) (texts c.in-Some.texts.now)
    c.digests_named.result (some_are c) (as_many c) c.digests_named.ensures.ok c.digests_named.ensures.named c.digests_named.ensures.err).0

pub returns-in-Some-clause-given : goal.returns-in-Some-clause-given
returns-in-Some-clause-given c =
    (all_read (λ digests. digests.items) c.args.count (all_of (codes "digest") (rows_in c.args.found.now)) (texts c.in-Some.texts.now)
    c.digests_named.result (some_are c) (as_many c) c.digests_named.ensures.ok c.digests_named.ensures.named c.digests_named.ensures.err).1

pub returns-in-Some-clause-err : goal.returns-in-Some-clause-err
returns-in-Some-clause-err c =
    (all_read (λ digests. digests.items) c.args.count (all_of (codes "digest") (rows_in c.args.found.now)) (texts c.in-Some.texts.now)
    c.digests_named.result (some_are c) (as_many c) c.digests_named.ensures.ok c.digests_named.ensures.named c.digests_named.ensures.err).2

pub returns-in_ok-miscounted-in-Some-2-clause-err : goal.returns-in_ok-miscounted-in-Some-2-clause-err
returns-in_ok-miscounted-in-Some-2-clause-err c =
    let given = c.in-Some.texts.now in
    inr (miscounted c.args.count (all_of (codes "digest") (rows_in c.args.found.now)) (texts given)
    (sym (digests_are (found_of c.args.found.now) c.get_strs.result c.get_strs.ensures) ∙ ap texts_of c.in-Some.is)
    (λ same. c.if-texts-count.false (sym (length-map {A = Bor Text} given (λ s. s.now)) ∙ same)))
