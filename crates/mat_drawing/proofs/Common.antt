-- The names that the proofs of this crate take from elsewhere and from its specs, passed on from one place. Declares nothing.
pub use Rattle.std.proofs.Common.{Bool, FitsSigned, List, None, Option, Some, [], ap, append-nil, append_assoc, arith, bytes_eq, codes, false, if◌then◌else◌, length, map, negsuc, not, pos, refl, rules, string_len, subst, suc, sym, take, true, zero, ℕ, ℤ, ◌&&◌, ◌*ℤ◌, ◌++◌, ◌+ℤ◌, ◌+◌, ◌-◌, ◌<ℤ◌, ◌==◌}
pub use Rattle.std.proofs.Common.{◌^◌, ◌∙◌, ◌∷◌, ◌≡◌, ◌≤ℤ◌}
pub use Rattle.std.proofs.lemmas.Bool.{and_from, and_parts, not-true, not_from_false, or_from, or_parts}
pub use Rattle.std.proofs.lemmas.Grind.{common_steps, flat_map-append}
pub use Rattle.std.proofs.lemmas.Int.{by_lt_z, ints, to_z-of_z}
pub use Rattle.std.proofs.lemmas.List.{length_push, map-append}
pub use Rattle.std.proofs.lemmas.List.Folds.{list_all-append}
pub use Rattle.std.proofs.lemmas.Result.{IfOk-weaker, on_ok_weaker}
pub use Rattle.mat_text.specs.Texts.{is_text_byte}
pub use Rattle.mat_drawing.specs.Attributes.{attribute_names}
pub use Rattle.mat_drawing.specs.Escaping.{entity, escaped, is_plain}
pub use Rattle.mat_drawing.specs.Markup.{AddsAttributes, AddsMarkup, IsElement, IsMarkup, Markup, are_attributes, attribute_of, attributes_of, beside, element, empty_element, is_attribute, is_well_formed, nothing, opening, spelled, spelled_attribute, words}
pub use Rattle.mat_drawing.specs.Names.{are_distinct, is_among, is_letter, is_name, is_name_byte, printed}
