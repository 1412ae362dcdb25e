use Rattle.std.proofs.Common.{◌≡◌, ◌∙◌, ℕ, ◌+◌, ◌<◌, [], ◌∷◌, ◌++◌, length, take, ap, subst, refl, arith, length-set}
use Rattle.std.proofs.lemmas.List.{length-map, take_all, take_more_set}
use Rattle.node_table.specs.Numbering.{key_of, IsNumbered}
use Rattle.node_table.proofs.Counting.{Numbers, numbers_begun, taken_from_first, was_known, is_new}
use Rattle.node_table.proofs.numbering.number_shared.Goals as goal
use Rattle.node_table.proofs.numbering.number_shared.Goals.{then-before-at+in_ok-push+in_ok-push-2, else-before-at}

pub loop-at-init : goal.loop-at-init
loop-at-init g c = (
  ap length c.requires.keys.are ∙ length-map c.args.visits.now key_of,
  [],
  numbers_begun _ _ _ _ _ refl c.in_ok-starts.ensures.items c.in_ok-paths.ensures.items refl,
)

pub index-number-requires : goal.index-number-requires
index-number-requires g c =
    let taken = taken_from_first _ _ _ c.requires.keys c.requires.firsts c.loop-at.at _
    (omega arith) refl c.loop-at.invariant.0 c.loop-at.invariant.2 in
    omega (arith, taken.within c.if-before-at.false, c.loop-at.numbers.ok.0)

pub overflow_sub-number : goal.overflow_sub-number
overflow_sub-number g c =
    let taken = taken_from_first _ _ _ c.requires.keys c.requires.firsts c.loop-at.at _
    (omega arith) refl c.loop-at.invariant.0 c.loop-at.invariant.2 in
    (taken.known c.if-before-at.false _ c.index-number.ensures).positive

pub count_one-requires : goal.count_one-requires
count_one-requires g c =
    let taken = taken_from_first _ _ _ c.requires.keys c.requires.firsts c.loop-at.at _
    (omega arith) refl c.loop-at.invariant.0 c.loop-at.invariant.2 in
    (taken.known c.if-before-at.false _ c.index-number.ensures).counted

pub loop-at-preserved : goal.loop-at-preserved
loop-at-preserved g c =
    let held : Numbers = record {
      first = c.loop-at.invariant.1;
      starts = c.loop-at.starts.items;
      paths = c.loop-at.paths.items;
      numbers = take c.loop-at.at c.loop-at.numbers.items;
    } in
    let inv = c.loop-at.invariant.2 in
    let level = c.loop-at.invariant.0 in
    let within : c.loop-at.at < length c.loop-at.numbers.items = omega arith in
    let taken = taken_from_first _ _ _ c.requires.keys c.requires.firsts c.loop-at.at _
    (omega arith) refl level inv in
    let put = λ (n : ℕ). take_more_set c.loop-at.numbers.items c.loop-at.at n within in
    let same = λ (n : ℕ). length-set c.loop-at.numbers.items c.loop-at.at n ∙ level in
    elim c.if-before-at.branch [
      | then-before-at+in_ok-push+in_ok-push-2 w ↦
          let next : w.len.result ≡ length held.first + 1 = omega (
            arith,
            w.len.ensures,
            w.in_ok-push.ensures.len,
            c.loop-at.starts.ok.0,
            inv.starts_level,
          ) in
          let later : Numbers = record {
            first = held.first ++ taken.visit ∷ [];
            starts = _;
            paths = _;
            numbers = _;
          } in (
            rw w.numbers-is (same _),
            later.first,
            rw (w.starts-is, w.paths-is, w.numbers-is) (is_new _ _ taken.visit held (omega arith) taken.here inv w.len.result later
                (taken.new w.if-before-at.true) next refl w.in_ok-push.ensures.items w.in_ok-push-2.ensures.items
                (put w.len.result)),
          )
      | else-before-at w ↦
          let has = taken.known w.if-before-at.false _ w.index-number.ensures in (
            rw w.numbers-is (same _),
            held.first,
            rw (w.starts-is, w.paths-is, w.numbers-is) (was_known _ _ taken.visit held (omega arith) taken.here inv
                w.index-number.result.now _ _ has.is w.count_one.ensures (put w.index-number.result.now)),
          )
    ]

pub returns : goal.returns
returns g c =
    let inv = c.loop-at.invariant in
    let all : c.loop-at.at ≡ length c.args.visits.now = omega arith in (
      inv.1,
      subst (IsNumbered c.args.visits.now (length c.args.visits.now) inv.1 c.loop-at.starts.items c.loop-at.paths.items)
          (take_all (length c.args.visits.now) c.loop-at.numbers.items (omega arith))
          (subst (λ n. IsNumbered c.args.visits.now n inv.1 c.loop-at.starts.items c.loop-at.paths.items
          (take n c.loop-at.numbers.items)) all inv.2),
    )
