pub mod uses
