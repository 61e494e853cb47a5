pub mod Laws
pub mod Even
