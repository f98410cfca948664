pub mod OkHasTheTotals
