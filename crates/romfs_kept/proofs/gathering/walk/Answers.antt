use Rattle.std.proofs.Common.{◌≡◌, ◌∙◌, sym, ap, subst, length, refl, arith}
use Rattle.std.proofs.lemmas.List.{length-replicate}
use Rattle.romfs_kept.specs.Walk.{is_noted, HasPushed}
use Rattle.romfs_kept.proofs.Noting.{none_inside}
use Rattle.romfs_kept.proofs.Walks.{IsPlace, under_start, under_turn, waiting_turn, waiting_popped, popped_place, cleared_place, smaller}
use Rattle.romfs_kept.proofs.gathering.walk.Goals as goal

pub loop-at-init : goal.loop-at-init
loop-at-init g c =
    let e = c.size-size.ensures.value in
    record {
      same = refl;
      walk = under_start g.S.Contents.source c.args.reader.now _ _ c.new-todo.result.items _ _ _ c.requires.front
          (λ h t l. none_inside _ _ _ c.in_ok-noted.ensures h t (omega arith)) c.in_ok-note.ensures.pushed;
      sized = c.in_ok-note.ensures.sized ∙ ap length c.in_ok-noted.ensures ∙ length-replicate _ _;
      waiting = waiting_turn _ _ _ _ _ _ c.in_ok-note.ensures.pushed c.requires.even
          (λ h w. absurd (let l = w.1 in let e = ap length c.new-todo.ensures.items in omega arith));
    }

pub visit-requires : goal.visit-requires
visit-requires g c = popped_place _ _ _ c.in-Some.ensures.items c.loop-at.invariant.waiting

pub loop-at-preserved : goal.loop-at-preserved
loop-at-preserved g c =
    let known = g.S.Contents.source in
    let same = c.in_ok-words.ensures.same ∙ c.loop-at.invariant.same in
    let e : c.size-size.result ≡ c.visit.new.reader.size = rw same c.size-size.ensures.value in
    let next : IsPlace c.cleared-next.result =
    subst (λ n. IsPlace n) (sym c.cleared-next.ensures) (cleared_place c.in_ok-words.words.first) in
    let down : IsPlace c.cleared.result =
    subst (λ n. IsPlace n) (sym c.cleared.ensures) (cleared_place c.in_ok-words.words.second) in
    let size = c.size-size.result in
    record {
      same = same;
      walk = under_turn _ c.visit.new.reader c.args.root c.in-Some.at c.loop-at.pieces.items c.visit.new.pieces.items c.loop-at.todo.items
          c.pop.new.self.items c.note-in-Some.new.todo.items c.note-in-Some-2.new.todo.items (is_noted size c.loop-at.noted)
          (is_noted size c.note-in-Some.new.noted) (is_noted size c.note-in-Some-2.new.noted) c.in_ok-words.words.first
          c.in_ok-words.words.second c.follows_next-goes_on.result c.follows_spec-goes_down.result c.in-Some.ensures.items
          (subst (λ p. HasPushed c.pop.new.self.items c.note-in-Some.new.todo.items (is_noted size c.loop-at.noted)
          (is_noted size c.note-in-Some.new.noted) c.follows_next-goes_on.result p) c.cleared-next.ensures c.in_ok-note-2.ensures.pushed)
          (subst (λ p. HasPushed c.note-in-Some.new.todo.items c.note-in-Some-2.new.todo.items (is_noted size c.note-in-Some.new.noted)
          (is_noted size c.note-in-Some-2.new.noted) c.follows_spec-goes_down.result p) c.cleared.ensures c.in_ok-note-3.ensures.pushed)
          (λ a b n. c.follows_next-goes_on.ensures a (omega arith) (λ z. n (sym c.cleared-next.ensures ∙ z)))
          c.follows_spec-goes_down.ensures.root (λ a b k. c.follows_spec-goes_down.ensures.directory a (omega arith) k)
          (λ a b k. c.follows_spec-goes_down.ensures.link a (omega arith) k)
          known (rw same c.size-size.ensures.within) (rw c.in_ok-words.ensures.same c.loop-at.invariant.walk) c.in_ok-words.ensures.known;
      sized = c.in_ok-note-3.ensures.sized ∙ c.in_ok-note-2.ensures.sized ∙ c.loop-at.invariant.sized;
      waiting = waiting_turn _ _ _ _ _ _ c.in_ok-note-3.ensures.pushed down
          (waiting_turn _ _ _ _ _ _ c.in_ok-note-2.ensures.pushed next
          (waiting_popped _ _ _ c.in-Some.ensures.items c.loop-at.invariant.waiting));
    }

pub loop-at-smaller : goal.loop-at-smaller
loop-at-smaller g c =
    smaller _ _ _ _ (length c.pop.new.self.items) _ _
    (omega (arith, c.in-Some.ensures.cases)) c.in_ok-note-2.ensures.count c.in_ok-note-3.ensures.count
