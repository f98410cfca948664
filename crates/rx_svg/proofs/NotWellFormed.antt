-- Texts that are not well formed.
use Rattle.rx_svg.proofs.Common.{◌≡◌, ℕ, false, List, codes, refl, ◌∙◌, sym, false≢true, IsWellFormed}
use Rattle.rx_svg.proofs.Reader.{passes, well_formed_passes}

refutes : (text : List ℕ) → passes text ≡ false → IsWellFormed text → ⊥
refutes text p w = false≢true (sym p ∙ well_formed_passes text w)

pub an_element_left_open : IsWellFormed (codes "<a><b></a>") → ⊥
an_element_left_open = refutes (codes "<a><b></a>") refl

pub elements_that_cross : IsWellFormed (codes "<a><b></a></b>") → ⊥
elements_that_cross = refutes (codes "<a><b></a></b>") refl

pub another_name_at_the_end : IsWellFormed (codes "<text>0</texts>") → ⊥
another_name_at_the_end = refutes (codes "<text>0</texts>") refl

pub an_end_tag_too_many : IsWellFormed (codes "<a></a></a>") → ⊥
an_end_tag_too_many = refutes (codes "<a></a></a>") refl

pub two_outermost_elements : IsWellFormed (codes "<a></a><b></b>") → ⊥
two_outermost_elements = refutes (codes "<a></a><b></b>") refl

pub a_text_outside : IsWellFormed (codes "<a></a>b") → ⊥
a_text_outside = refutes (codes "<a></a>b") refl

pub no_element : IsWellFormed (codes "") → ⊥
no_element = refutes (codes "") refl

pub a_value_with_a_bracket : IsWellFormed (codes "<a b=\"<\"></a>") → ⊥
a_value_with_a_bracket = refutes (codes "<a b=\"<\"></a>") refl

pub a_value_with_no_quotation_marks : IsWellFormed (codes "<a b=1></a>") → ⊥
a_value_with_no_quotation_marks = refutes (codes "<a b=1></a>") refl

pub a_value_that_goes_on_after_its_end : IsWellFormed (codes "<a b=\"1\"2\"></a>") → ⊥
a_value_that_goes_on_after_its_end = refutes (codes "<a b=\"1\"2\"></a>") refl

pub an_attribute_twice : IsWellFormed (codes "<a b=\"1\" c=\"2\" b=\"3\"></a>") → ⊥
an_attribute_twice = refutes (codes "<a b=\"1\" c=\"2\" b=\"3\"></a>") refl

pub a_bracket_in_a_text : IsWellFormed (codes "<a>1 < 2</a>") → ⊥
a_bracket_in_a_text = refutes (codes "<a>1 < 2</a>") refl

pub an_ampersand_in_a_text : IsWellFormed (codes "<a>b & c</a>") → ⊥
an_ampersand_in_a_text = refutes (codes "<a>b & c</a>") refl

pub an_entity_that_nothing_declares : IsWellFormed (codes "<a>b &nbsp; c</a>") → ⊥
an_entity_that_nothing_declares = refutes (codes "<a>b &nbsp; c</a>") refl

pub a_reference_with_no_end : IsWellFormed (codes "<a>b &lt c</a>") → ⊥
a_reference_with_no_end = refutes (codes "<a>b &lt c</a>") refl
