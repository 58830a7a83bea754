use Rattle.std.proofs.Common.{◌≡◌, ◌∙◌, List, ap, sym, refl, inl, inr, rules}
use Rattle.std.specs.Prelude.{position, IsSome, false, true}
use Rattle.mat_shelf.specs.Files.{FileState, has_name, held_in, FailsNext}
use Rattle.mat_shelf.proofs.ShelfLemmas.{open_at-place, held_in-found, held_in-not_found, not_missing}
use Rattle.mat_shelf.proofs.mem_shelf.MemShelf.open_file.Goals as goal

pub returns-in-Some-clause-fails : goal.returns-in-Some-clause-fails
returns-in-Some-clause-fails c =
    let held : IsSome (held_in c.args.self.now.files c.args.name.now) = rw (← c.self.view_is) (held_in-found c.self.inside.files.items c.args.name.now c.in-Some.place (ap (λ (files : List FileState). position (has_name c.args.name.now) files) (sym c.deref-2.ensures.value) ∙ sym c.place_of.ensures ∙ c.in-Some.is)) in
    let unlisted : FailsNext c.args.self.now → false ≡ true = rw (← c.self.view_is) (search rules) in
    (λ e. absurd (cc), λ fails. elim fails [ inl listed ↦ unlisted listed | inr missing ↦ absurd (not_missing _ held missing) ])

pub returns-in-Some-clause-ok : goal.returns-in-Some-clause-ok
returns-in-Some-clause-ok c =
    rw (← c.self.view_is, open_at-place c.self.inside.files.items c.args.name.now c.in-Some.place (ap (λ (files : List FileState). position (has_name c.args.name.now) files) (sym c.deref-2.ensures.value) ∙ sym c.place_of.ensures ∙ c.in-Some.is), c.saturating_add-self-inside.ensures) refl

pub returns-in-Some-clause-held : goal.returns-in-Some-clause-held
returns-in-Some-clause-held c =
    rw (← c.self.view_is) (held_in-found c.self.inside.files.items c.args.name.now c.in-Some.place (ap (λ (files : List FileState). position (has_name c.args.name.now) files) (sym c.deref-2.ensures.value) ∙ sym c.place_of.ensures ∙ c.in-Some.is))

pub returns-in-None-clause-fails : goal.returns-in-None-clause-fails
returns-in-None-clause-fails c =
    (λ _. inr (rw (← c.self.view_is) (held_in-not_found c.self.inside.files.items c.args.name.now (ap (λ (files : List FileState). position (has_name c.args.name.now) files) (sym c.deref-2.ensures.value) ∙ sym c.place_of.ensures ∙ c.in-None.is))), λ _. refl)
