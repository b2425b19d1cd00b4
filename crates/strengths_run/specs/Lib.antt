-- Why a column of rising keys names a card.
pub mod Keys
