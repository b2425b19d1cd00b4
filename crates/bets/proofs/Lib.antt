pub mod RowBack
